-- The code of a small program in which a state goes round three times and is then sent, and codes
-- that do more or less than it asks for:
--
--     'main'/0 = fun () -> apply 'loop'/2(3,{'s',0})
--     'loop'/2 = fun (N,S) -> case N of
--       <0> when 'true' -> do erlang:!(erlang:self(),S) S
--       <X> when 'true' -> apply 'loop'/2(erlang:-(N,1),{'s',N}) end
--
-- with the functions that each program has.
use Rattle.std.specs.Prelude.{◌≡◌, ℕ, List, [], ◌∷◌, pos}
use Rattle.hy_core.specs.declared.bif.Bif.TheVariants as b
use Rattle.hy_core.specs.declared.class.Class.TheVariants.{Error}
use Rattle.hy_core.specs.declared.tree.FunName.{FunName}
use Rattle.hy_core.specs.declared.tree.Program.{Program}
use Rattle.hy_core.specs.FullRun.{trees_of}
use Rattle.hy_core.specs.Numbered.{program_sites}
use Rattle.hy_core.specs.ProgramTrees.{function_trees}
use Rattle.hy_core.specs.Tables.{program_atoms, program_functions}
use Rattle.hy_core.specs.Resolve.{Names}
use Rattle.hy_core.specs.Resolved as r
use Rattle.hy_core.specs.Resolved.{Pattern, AnyTerm, TheInt, TheNil, TheList, NoPatterns}
use Rattle.hy_core.specs.Resolved.{MorePatterns, Expression, Expressions, NoExpressions}
use Rattle.hy_core.specs.Resolved.{MoreExpressions, Clauses, NoClauses, MoreClauses, FunctionTree}
use Rattle.hy_core.specs.Syntax as s
use Rattle.hy_core.specs.Syntax.{Syntax, Syntaxes, NoSyntax, MoreSyntax, NoDefinitions}
use Rattle.hy_core.specs.Syntax.{MoreDefinitions, ModuleSyntax, module_trees}
use Rattle.hy_ir.specs.Code.{Arms, NoArms, MoreArms, Choose, Code, Function, Give, Tail}
use Rattle.hy_ir.specs.WorkedCodes.{loop_atoms, loop_names, loop_main, loop, loop_code, function}
use Rattle.hy_ir.specs.WorkedCodes.{steps, number, atom, always, prelude_functions}
use Rattle.hy_ir.specs.declared.code.Op.TheVariants as op
use Rattle.hy_ir.specs.declared.code.Test.{Test}
use Rattle.hy_ir.specs.declared.code.Test.TheVariants as test
use Rattle.lifted_program.specs.Captured.{AreCaptured}
use Rattle.lifted_program.specs.LiftingLaws.{lifting_of}
use Rattle.lifted_program.specs.Renaming.{renamed_program}
use Rattle.program_code.specs.ProgramCode.{IsCode, IsCodeOfProgram}

-- the program as its source says it

abbrev one_syntax : Syntax → Syntaxes
one_syntax x = MoreSyntax x NoSyntax

abbrev two_syntaxes : Syntax → Syntax → Syntaxes
two_syntaxes x y = MoreSyntax x (one_syntax y)

abbrev named : (name arity : ℕ) → FunName
named name arity = record { name = name; arity = arity }

abbrev erlang : (name : ℕ) → Syntaxes → Syntax
erlang name arguments = s.Call (s.Atom 11) (s.Atom name) arguments

abbrev apply : FunName → Syntaxes → Syntax
apply f arguments = s.Apply (s.Name f) arguments

abbrev clause : Pattern → Syntax → s.Clauses → s.Clauses
clause p body cs = s.MoreClauses (MorePatterns p NoPatterns) (s.Atom 0) body cs

-- case V0 of <[]> -> V1; <[V2|V3]> -> step; <V4> -> erlang:error('badarg') end
abbrev over_list : Syntax → Syntax
over_list step =
    s.Case (s.Var 0)
    (clause TheNil (s.Var 1)
    (clause (TheList (MorePatterns (AnyTerm 2) NoPatterns) (AnyTerm 3)) step
    (clause (AnyTerm 4) (erlang 16 (one_syntax (s.Atom 3))) s.NoClauses)))

abbrev head_before : Syntax → Syntax
head_before tail = s.ListOf 0 (one_syntax (s.Var 2)) tail

abbrev main_source : Syntax
main_source =
    apply (named 9 2)
    (two_syntaxes (s.Int (pos 3)) (s.Tuple 0 (two_syntaxes (s.Atom 10) (s.Int (pos 0)))))

abbrev loop_source : Syntax
loop_source =
    s.Case (s.Var 0)
    (clause (TheInt (pos 0))
    (s.Do (erlang 12 (two_syntaxes (erlang 13 NoSyntax) (s.Var 1))) (s.Var 1))
    (clause (AnyTerm 2)
    (apply (named 9 2)
    (two_syntaxes (erlang 14 (two_syntaxes (s.Var 0) (s.Int (pos 1))))
    (s.Tuple 0 (two_syntaxes (s.Atom 10) (s.Var 0)))))
    s.NoClauses))

abbrev pub modules : List ModuleSyntax
modules =
    record {
      name = 7;
      functions =
          MoreDefinitions (named 8 0) [] main_source
          (MoreDefinitions (named 9 2) (0 ∷ 1 ∷ []) loop_source NoDefinitions);
    }
    ∷ record {
      name = 11;
      functions =
          MoreDefinitions (named 15 2) (0 ∷ 1 ∷ [])
          (over_list (head_before (apply (named 15 2) (two_syntaxes (s.Var 3) (s.Var 1)))))
          NoDefinitions;
    }
    ∷ record {
      name = 17;
      functions =
          MoreDefinitions (named 18 1) (0 ∷ [])
          (apply (named 18 2) (two_syntaxes (s.Var 0) s.Nil))
          (MoreDefinitions (named 18 2) (0 ∷ 1 ∷ [])
          (over_list (apply (named 18 2) (two_syntaxes (s.Var 3) (head_before (s.Var 1)))))
          (MoreDefinitions (named 19 2) (0 ∷ 1 ∷ [])
          (erlang 15 (two_syntaxes (s.Var 0) (s.Var 1))) NoDefinitions));
    }
    ∷ []

abbrev pub names : Names
names = record { atoms = loop_atoms; functions = loop_names }

-- and as it is resolved, with the numbers of its functions, events and sites

abbrev pub one : Expression → Expressions
one e = MoreExpressions e NoExpressions

abbrev pub two : Expression → Expression → Expressions
two e f = MoreExpressions e (one f)

abbrev way : Pattern → Expression → Clauses → Clauses
way p body cs = MoreClauses (MorePatterns p NoPatterns) (r.Atom 0) body cs

abbrev tree : (parameters : List ℕ) → Expression → FunctionTree
tree xs body = record { parameters = xs; body = body }

abbrev pub main_tree : FunctionTree
main_tree =
    tree []
    (r.Call (r.Function 1) (two (r.Int (pos 3)) (r.Tuple 0 (two (r.Atom 10) (r.Int (pos 0))))))

-- the send is at node 5
abbrev pub loop_tree : FunctionTree
loop_tree =
    tree (0 ∷ 1 ∷ [])
    (r.Case (r.Variable 0)
    (way (TheInt (pos 0))
    (r.Do
    (r.Call (r.Send 5) (two (r.Call (r.BuiltIn b.SelfPid) NoExpressions) (r.Variable 1)))
    (r.Variable 1))
    (way (AnyTerm 2)
    (r.Call (r.Function 1)
    (two (r.Call (r.BuiltIn b.Sub) (two (r.Variable 0) (r.Int (pos 1))))
    (r.Tuple 1 (two (r.Atom 10) (r.Variable 0)))))
    NoClauses)))

abbrev pub tree_over_list : Expression → FunctionTree
tree_over_list step =
    tree (0 ∷ 1 ∷ [])
    (r.Case (r.Variable 0)
    (way TheNil (r.Variable 1)
    (way (TheList (MorePatterns (AnyTerm 2) NoPatterns) (AnyTerm 3)) step
    (way (AnyTerm 4) (r.Call (r.Raising Error) (one (r.Atom 3))) NoClauses))))

abbrev pub append_tree : FunctionTree
append_tree =
    tree_over_list
    (r.ListOf 2 (one (r.Variable 2)) (r.Call (r.Function 2) (two (r.Variable 3) (r.Variable 1))))

abbrev pub reverse_one_tree : FunctionTree
reverse_one_tree = tree (0 ∷ []) (r.Call (r.Function 4) (two (r.Variable 0) r.Nil))

abbrev pub reverse_two_tree : FunctionTree
reverse_two_tree =
    tree_over_list
    (r.Call (r.Function 4)
    (two (r.Variable 3) (r.ListOf 3 (one (r.Variable 2)) (r.Variable 1))))

abbrev pub append_call_tree : FunctionTree
append_call_tree = tree (0 ∷ 1 ∷ []) (r.Call (r.Function 2) (two (r.Variable 0) (r.Variable 1)))

abbrev pub trees : List FunctionTree
trees =
    main_tree ∷ loop_tree ∷ append_tree ∷ reverse_one_tree ∷ reverse_two_tree ∷ append_call_tree
    ∷ []

-- what is said of it

-- nothing is captured where there is no letrec
abbrev pub none_captured : (function : ℕ) → List ℕ
none_captured f = []

-- the worked code with the names and atoms of a program
abbrev pub code_in : Program → Code
code_in program = record loop_code {
  names = program_functions program;
  atoms = program_atoms program;
}

-- The source is resolved to these trees, they are lifted to themselves, and the code is theirs. So
-- it is the code of each program with these trees and sites.
pub record LoopHasItsCode : Type 0 where
  pub resolved : function_trees names (0 ∷ 1 ∷ 2 ∷ 3 ∷ []) (module_trees modules) ≡ trees
  pub captured : AreCaptured (renamed_program 10 trees) none_captured
  pub lifted : lifting_of 10 none_captured trees ≡ trees
  pub code : IsCode (lifting_of 10 none_captured trees) loop_code
  pub of_program : (program : Program) → trees_of program ≡ trees
      → program_sites program ≡ loop_code.sites → IsCodeOfProgram program (code_in program)

abbrev with_functions : (main round : Function) → Code
with_functions main round = record {
  functions = main ∷ round ∷ prelude_functions 2 2;
  sites = loop_code.sites;
  names = loop_names;
  atoms = loop_atoms;
}

-- the main function builds its tuple once more, and nobody reads it
abbrev builds_twice : Function
builds_twice =
    function 0 5
    (steps
    (number 0 3 ∷ atom 1 10 ∷ number 2 0 ∷ op.Build 0 3 (1 ∷ 2 ∷ []) ∷ op.Build 0 4 (1 ∷ 2 ∷ [])
    ∷ [])
    (Tail 1 (0 ∷ 3 ∷ [])))

abbrev pub unread_tuple : Code
unread_tuple = with_functions builds_twice loop

-- the loop with these tests for its second clause, and with further arms
abbrev loop_with : (second : List Test) → (further : Arms) → Function
loop_with second further =
    function 2 15
    (steps [] (Choose
    (MoreArms (test.IsInt 0 (pos 0) ∷ []) (always 2)
    (steps (op.Bif 3 b.SelfPid [] ∷ op.Send 5 4 3 1 ∷ []) (Give (1 ∷ [])))
    (MoreArms second (always 6)
    (steps
    (number 7 1 ∷ op.Bif 8 b.Sub (0 ∷ 7 ∷ []) ∷ atom 9 10 ∷ op.Build 1 10 (9 ∷ 0 ∷ []) ∷ [])
    (Tail 1 (8 ∷ 10 ∷ []))) further))))

-- the state is sent in one more arm, behind one that accepts each number
abbrev pub unasked_send : Code
unasked_send =
    with_functions (loop_main 3)
    (loop_with (test.Bind 5 0 ∷ [])
    (MoreArms (test.Bind 11 0 ∷ []) (always 12)
    (steps (op.Bif 13 b.SelfPid [] ∷ op.Send 5 14 13 1 ∷ []) (Give (1 ∷ []))) NoArms))

-- the variable of the second clause, which no test stands around, has no test of its own
abbrev pub unbound_variable : Code
unbound_variable = with_functions (loop_main 3) (loop_with [] NoArms)

-- they are no codes of the program, however it is lifted
pub record OthersAreNoCodes : Type 0 where
  pub tuple : (limit : ℕ) (captured : ℕ → List ℕ)
      → IsCode (lifting_of limit captured trees) unread_tuple → ⊥
  pub send : (limit : ℕ) (captured : ℕ → List ℕ)
      → IsCode (lifting_of limit captured trees) unasked_send → ⊥
  pub variable : (limit : ℕ) (captured : ℕ → List ℕ)
      → IsCode (lifting_of limit captured trees) unbound_variable → ⊥
