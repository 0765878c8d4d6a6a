-- A program as its sources say it and as it is resolved: each call says what it calls, and each
-- event and each place that builds has its number.
use Rattle.std.specs.Prelude.{◌≡◌, ℕ, List, [], ◌∷◌, ◌++◌, pos, codes}
use Rattle.hy_core.specs.declared.bif.Bif.TheVariants as b
use Rattle.hy_core.specs.declared.class.Class.TheVariants.{Error}
use Rattle.hy_core.specs.declared.info.FunInfo.{FunInfo}
use Rattle.hy_core.specs.declared.tree.FunName.{FunName}
use Rattle.hy_core.specs.BuiltIn.{own_atoms}
use Rattle.hy_core.specs.ProgramTrees.{function_trees}
use Rattle.hy_core.specs.Resolve.{Names}
use Rattle.hy_core.specs.Resolved as r
use Rattle.hy_core.specs.Resolved.{Pattern, Patterns, NoPatterns, MorePatterns, Expression, Expressions, NoExpressions, MoreExpressions, Clauses, NoClauses, MoreClauses, NoFunctions, MoreFunctions, FunctionTree, AnyTerm, TheInt, TheNil, TheText, TheTuple, TheList, Alias}
use Rattle.hy_core.specs.Syntax as syntax
use Rattle.hy_core.specs.Syntax.{Syntax, Syntaxes, NoSyntax, MoreSyntax, NoDefinitions, MoreDefinitions, ModuleSyntax, module_trees}

-- behind the own atoms: 7 'm', 8 'main', 9 'loop', 10 's', 11 'erlang', 12 '!', 13 'self', 14 '-',
-- 15 '++', 16 'error', 17 'other', 18 'f', 19 'setelement', 20 'spawn', 21 'match_fail', 22
-- 'infinity', 23 'display'
abbrev atoms : List (List ℕ)
atoms =
    own_atoms ++ codes "m" ∷ codes "main" ∷ codes "loop" ∷ codes "s" ∷ codes "erlang" ∷ codes "!"
    ∷ codes "self" ∷ codes "-" ∷ codes "++" ∷ codes "error"
    ∷ codes "other" ∷ codes "f" ∷ codes "setelement" ∷ codes "spawn" ∷ codes "match_fail"
    ∷ codes "infinity" ∷ codes "display" ∷ []

abbrev named : ℕ → ℕ → FunName
named name arity = record { name = name; arity = arity }

abbrev info : ℕ → FunName → FunInfo
info m f = record { «module» = m; name = f }

abbrev pub names : Names
names = record {
  atoms = atoms;
  functions = info 7 (named 8 0) ∷ info 7 (named 9 2)
      ∷ info 7 (named 17 1) ∷ info 11 (named 15 2) ∷ info 7 (named 17 1) ∷ [];
}

abbrev int : ℕ → Syntax
int n = syntax.Int (pos n)

abbrev one : Syntax → Syntaxes
one s = MoreSyntax s NoSyntax

abbrev both : Syntax → Syntax → Syntaxes
both s t = MoreSyntax s (MoreSyntax t NoSyntax)

abbrev erlang : ℕ → Syntaxes → Syntax
erlang f arguments = syntax.Call (syntax.Atom 11) (syntax.Atom f) arguments

abbrev clause : Pattern → Syntax → syntax.Clauses → syntax.Clauses
clause p s cs = syntax.MoreClauses (MorePatterns p NoPatterns) (syntax.Atom 0) s cs

-- apply 'loop'/2 (3, {'s', 0})
abbrev main_source : Syntax
main_source = syntax.Apply (syntax.Name (named 9 2))
    (both (int 3) (syntax.Tuple 0 (both (syntax.Atom 10) (int 0))))

-- case V0 of <0> -> do erlang:!(erlang:self(), V1) V1; <V2> -> apply 'loop'/2 (erlang:-(V0, 1),
-- {'s', V0}) end
abbrev loop_source : Syntax
loop_source =
    syntax.Case (syntax.Var 0)
    (clause (TheInt (pos 0))
    (syntax.Do (erlang 12 (both (erlang 13 NoSyntax) (syntax.Var 1))) (syntax.Var 1))
    (clause (AnyTerm 2)
    (syntax.Apply (syntax.Name (named 9 2))
    (both (erlang 14 (both (syntax.Var 0) (int 1)))
    (syntax.Tuple 0 (both (syntax.Atom 10) (syntax.Var 0))))) syntax.NoClauses))

-- letrec 'f'/1 = fun (V1) -> let <V2> = "ab" in erlang:setelement(1, {V1, V2}, [V1|V2])
-- in do erlang:spawn('m', 'loop', [1, {}])
--    do case <V0, 2> of
--         <[V3, V4|V5], V6 = {7}> when try V3 of <V7> -> V7 catch <V8, V9> -> 'false' ->
--           apply 'f'/1 (V4)
--       end
--    receive <"cd"> -> primop 'match_fail' (V0) after 'infinity' -> erlang:display([])
abbrev other_source : Syntax
other_source =
    syntax.Letrec
    (MoreDefinitions (named 18 1) (1 ∷ [])
    (syntax.Let (2 ∷ []) (syntax.Str (codes "ab"))
    (erlang 19 (MoreSyntax (int 1) (both (syntax.Tuple 0 (both (syntax.Var 1) (syntax.Var 2)))
    (syntax.ListOf 0 (one (syntax.Var 1)) (syntax.Var 2)))))) NoDefinitions)
    (syntax.Do (erlang 20
    (MoreSyntax (syntax.Atom 7)
    (both (syntax.Atom 9)
    (syntax.ListOf 0 (both (int 1) (syntax.Tuple 0 NoSyntax)) syntax.Nil))))
    (syntax.Do (syntax.Case (syntax.Values (both (syntax.Var 0) (int 2)))
    (syntax.MoreClauses
    (MorePatterns (TheList (MorePatterns (AnyTerm 3) (MorePatterns (AnyTerm 4) NoPatterns))
    (AnyTerm 5))
    (MorePatterns (Alias 6 (TheTuple (MorePatterns (TheInt (pos 7)) NoPatterns))) NoPatterns))
    (syntax.Try (syntax.Var 3) (7 ∷ []) (syntax.Var 7) (8 ∷ 9 ∷ []) (syntax.Atom 1))
    (syntax.Apply (syntax.Name (named 18 1)) (one (syntax.Var 4))) syntax.NoClauses))
    (syntax.Receive (clause (TheText (codes "cd")) (syntax.Primop 21 (one (syntax.Var 0)))
    syntax.NoClauses) (syntax.Atom 22) (erlang 23 (one syntax.Nil)))))

-- case V0 of <[]> -> V1; <[V2|V3]> -> [V2|apply '++'/2 (V3, V1)]; <V4> -> erlang:error('badarg')
-- end
abbrev append_source : Syntax
append_source =
    syntax.Case (syntax.Var 0) (clause TheNil (syntax.Var 1)
    (clause (TheList (MorePatterns (AnyTerm 2) NoPatterns) (AnyTerm 3))
    (syntax.ListOf 0 (one (syntax.Var 2))
    (syntax.Apply (syntax.Name (named 15 2)) (both (syntax.Var 3) (syntax.Var 1))))
    (clause (AnyTerm 4) (erlang 16 (one (syntax.Atom 3))) syntax.NoClauses)))

abbrev pub modules : List ModuleSyntax
modules =
    record {
      name = 7;
      functions = MoreDefinitions (named 8 0) [] main_source
          (MoreDefinitions (named 9 2) (0 ∷ 1 ∷ []) loop_source
          (MoreDefinitions (named 17 1) (0 ∷ []) other_source NoDefinitions));
    }
    ∷ record {
      name = 11;
      functions = MoreDefinitions (named 15 2) (0 ∷ 1 ∷ []) append_source
          NoDefinitions;
    } ∷ []

abbrev alone : Expression → Expressions
alone x = MoreExpressions x NoExpressions

abbrev pair : Expression → Expression → Expressions
pair x y = MoreExpressions x (MoreExpressions y NoExpressions)

abbrev way : Pattern → Expression → Clauses → Clauses
way p x cs = MoreClauses (MorePatterns p NoPatterns) (r.Atom 0) x cs

-- the tuple of main is at site 0
abbrev main_tree : Expression
main_tree =
    r.Call (r.Function 1) (pair (r.Int (pos 3)) (r.Tuple 0 (pair (r.Atom 10) (r.Int (pos 0)))))

-- the send of loop is at node 5, and its tuple at site 1
abbrev loop_tree : Expression
loop_tree =
    r.Case (r.Variable 0)
    (way (r.TheInt (pos 0))
    (r.Do (r.Call (r.Send 5) (pair (r.Call (r.BuiltIn b.SelfPid) NoExpressions) (r.Variable 1)))
    (r.Variable 1))
    (way (r.AnyTerm 2)
    (r.Call (r.Function 1)
    (pair (r.Call (r.BuiltIn b.Sub) (pair (r.Variable 0) (r.Int (pos 1))))
    (r.Tuple 1 (pair (r.Atom 10) (r.Variable 0))))) NoClauses))

-- the string is at site 2, the setelement at 3, its tuple at 4, its list at 5 and the empty tuple
-- at 6; the spawn is at node 14 and the display at node 47
abbrev other_tree : Expression
other_tree =
    r.Letrec (MoreFunctions (named 18 1) (1 ∷ []) (r.Let (2 ∷ []) (r.Text 2 (codes "ab"))
    (r.Call (r.Setelement 3)
    (MoreExpressions (r.Int (pos 1)) (pair (r.Tuple 4 (pair (r.Variable 1) (r.Variable 2)))
    (r.ListOf 5 (alone (r.Variable 1)) (r.Variable 2)))))) NoFunctions)
    (r.Do (r.Call (r.Spawn 14 1) (pair (r.Int (pos 1)) (r.Tuple 6 NoExpressions)))
    (r.Do (r.Case (r.Values (pair (r.Variable 0) (r.Int (pos 2))))
    (MoreClauses
    (MorePatterns
    (r.TheList (MorePatterns (r.AnyTerm 3) (MorePatterns (r.AnyTerm 4) NoPatterns))
    (r.AnyTerm 5))
    (MorePatterns (r.Alias 6 (r.TheTuple (MorePatterns (r.TheInt (pos 7)) NoPatterns)))
    NoPatterns))
    (r.Variable 3) (r.Call (r.Local (named 18 1)) (alone (r.Variable 4))) NoClauses))
    (r.Receive (way (r.TheText (codes "cd")) (r.Call r.MatchFail (alone (r.Variable 0))) NoClauses)
    r.Never (r.Call (r.Display 47) (alone r.Nil)))))

abbrev append_tree : Expression
append_tree =
    r.Case (r.Variable 0) (way r.TheNil (r.Variable 1)
    (way (r.TheList (MorePatterns (r.AnyTerm 2) NoPatterns) (r.AnyTerm 3))
    (r.ListOf 7 (alone (r.Variable 2))
    (r.Call (r.Function 3) (pair (r.Variable 3) (r.Variable 1))))
    (way (r.AnyTerm 4) (r.Call (r.Raising Error) (alone (r.Atom 3))) NoClauses)))

abbrev pub trees : List FunctionTree
trees =
    record { parameters = []; body = main_tree }
    ∷ record { parameters = 0 ∷ 1 ∷ []; body = loop_tree }
    ∷ record { parameters = 0 ∷ []; body = other_tree }
    ∷ record { parameters = 0 ∷ 1 ∷ []; body = append_tree } ∷ []

abbrev pub IsResolved : Type 0
IsResolved =
    function_trees names (0 ∷ 1 ∷ 2 ∷ 3 ∷ 4 ∷ 5 ∷ 6 ∷ 7 ∷ []) (module_trees modules) ≡ trees
