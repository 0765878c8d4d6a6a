-- The code that lowering makes of small functions.
use Rattle.std.specs.Prelude.{◌≡◌, ℕ, List, [], ◌∷◌, pos}
use Rattle.hy_core.specs.declared.bif.Bif.TheVariants as b
use Rattle.hy_core.specs.declared.class.Class.TheVariants.{Error, Exit}
use Rattle.hy_core.specs.Resolved as r
use Rattle.hy_core.specs.Resolved.{Pattern, AnyTerm, TheInt, TheList, TheTuple, Alias, NoPatterns}
use Rattle.hy_core.specs.Resolved.{MorePatterns, Patterns, Expression, NoExpressions}
use Rattle.hy_core.specs.Resolved.{Clauses, NoClauses, MoreClauses, FunctionTree}
use Rattle.hy_ir.specs.Code as c
use Rattle.hy_ir.specs.Code.{NoArms, MoreArms, Choose, Function, Give, LapseTo, NoLapse, MakeTree}
use Rattle.hy_ir.specs.Code.{NoParts, MoreParts, Raise, Receive, Within}
use Rattle.hy_ir.specs.WorkedCodes.{loop_atoms, loop_names, loop_code, function, steps, number}
use Rattle.hy_ir.specs.WorkedCodes.{atom, always}
use Rattle.hy_ir.specs.declared.code.Op.TheVariants as op
use Rattle.hy_ir.specs.declared.code.Test.TheVariants as test
use Rattle.program_code.specs.WorkedProgramCode.{one, two, trees}
use Rattle.lowered_code.specs.LoweredCode.{lowered_code, lowered_function}

abbrev of_one : Pattern → Patterns
of_one p = MorePatterns p NoPatterns

abbrev of_two : Pattern → Pattern → Patterns
of_two p q = MorePatterns p (of_one q)

abbrev tree : (parameters : List ℕ) → Expression → FunctionTree
tree xs body = record { parameters = xs; body = body }

abbrev way : Pattern → Expression → Clauses → Clauses
way p body cs = MoreClauses (of_one p) (r.Atom 0) body cs

-- fun (V0) -> [1,2|V0]: the conses are built from the last head to the first
abbrev list_tree : FunctionTree
list_tree = tree (0 ∷ []) (r.ListOf 0 (two (r.Int (pos 1)) (r.Int (pos 2))) (r.Variable 0))

abbrev list_function : Function
list_function =
    function 1 5
    (steps (number 1 1 ∷ number 2 2 ∷ op.Build 1 3 (2 ∷ 0 ∷ []) ∷ op.Build 0 4 (1 ∷ 3 ∷ []) ∷ [])
    (Give (4 ∷ [])))

-- fun (V0) -> {case V0 of
--   <{V1,V2 = [V3|V4]}> when erlang:is_integer(V1) -> V2
--   <V5 = V6> when 'true' -> erlang:error(5) end, V0}
abbrev choice_tree : FunctionTree
choice_tree =
    tree (0 ∷ [])
    (r.Tuple 0
    (two (r.Case (r.Variable 0)
    (MoreClauses
    (of_one (TheTuple (of_two (AnyTerm 1) (Alias 2 (TheList (of_one (AnyTerm 3)) (AnyTerm 4))))))
    (r.Call (r.BuiltIn b.IsInteger) (one (r.Variable 1))) (r.Variable 2)
    (way (Alias 5 (AnyTerm 6)) (r.Call (r.Raising Error) (one (r.Int (pos 5)))) NoClauses)))
    (r.Variable 0)))

-- the choice has more behind it, so it stands in an inner tree; a variable below a tuple or a cons
-- is the out of that test, an alias too
abbrev choice_function : Function
choice_function =
    function 1 12
    (MakeTree
    (MoreParts (Within (10 ∷ []) (steps [] (Choose
    (MoreArms (test.IsTuple 0 2 (1 ∷ 2 ∷ []) ∷ test.IsCons 2 3 4 ∷ [])
    (record { operations = op.Bif 5 b.IsInteger (1 ∷ []) ∷ []; register = 5 })
    (steps [] (Give (2 ∷ [])))
    (MoreArms (test.Bind 6 0 ∷ test.Bind 7 0 ∷ []) (always 8)
    (steps (number 9 5 ∷ []) (Raise Error 9)) NoArms)))))
    (MoreParts (c.Do (op.Build 0 11 (10 ∷ 0 ∷ []))) NoParts))
    (Give (11 ∷ [])))

-- fun () -> do receive <V0> when 'true' -> V0 after 0 -> erlang:exit('s') end
--   receive <3> when 'true' -> 's' after 'infinity' -> 's' end
abbrev receive_tree : FunctionTree
receive_tree =
    tree []
    (r.Do
    (r.Receive (way (AnyTerm 0) (r.Variable 0) NoClauses) r.AtOnce
    (r.Call (r.Raising Exit) (one (r.Atom 10))))
    (r.Receive (way (TheInt (pos 3)) (r.Atom 10) NoClauses) r.Never (r.Atom 10)))

abbrev receive_function : Function
receive_function =
    function 0 8
    (MakeTree
    (MoreParts (Within (4 ∷ []) (steps [] (Receive 0
    (MoreArms (test.Bind 1 0 ∷ []) (always 2) (steps [] (Give (1 ∷ []))) NoArms)
    (LapseTo (steps (atom 3 10 ∷ []) (Raise Exit 3)))))) NoParts)
    (Receive 5
    (MoreArms (test.IsInt 5 (pos 3) ∷ []) (always 6) (steps (atom 7 10 ∷ []) (Give (7 ∷ [])))
    NoArms) NoLapse))

-- fun (V0,V1) -> let <V2,V3> = <V1,V0> in apply 'loop'/2(V2,V3): variables cost nothing
abbrev values_tree : FunctionTree
values_tree =
    tree (0 ∷ 1 ∷ [])
    (r.Let (2 ∷ 3 ∷ []) (r.Values (two (r.Variable 1) (r.Variable 0)))
    (r.Call (r.Function 1) (two (r.Variable 2) (r.Variable 3))))

abbrev values_function : Function
values_function = function 2 2 (steps [] (c.Tail 1 (1 ∷ 0 ∷ [])))

-- fun () -> let <V0,V1> = erlang:match_fail({}) in {'s',apply 'main'/0()}: the raise has more
-- behind it, so its tree gives as many values as are bound; the call isn't the last part
abbrev raise_tree : FunctionTree
raise_tree =
    tree []
    (r.Let (0 ∷ 1 ∷ []) (r.Call r.MatchFail (one (r.Tuple 0 NoExpressions)))
    (r.Tuple 1 (two (r.Atom 10) (r.Call (r.Function 0) NoExpressions))))

abbrev raise_function : Function
raise_function =
    function 0 6
    (MakeTree
    (MoreParts (Within (1 ∷ 2 ∷ []) (steps (op.Build 0 0 [] ∷ []) (c.Fail 0)))
    (MoreParts (c.Do (atom 3 10)) (MoreParts (c.Do (op.Call 4 0 []))
    (MoreParts (c.Do (op.Build 1 5 (3 ∷ 4 ∷ []))) NoParts))))
    (Give (5 ∷ [])))

pub record FunctionsAreLowered : Type 0 where
  -- the program whose state goes round three times and is then sent
  pub loop : lowered_code loop_code.sites loop_names loop_atoms trees ≡ loop_code
  pub lists : lowered_function list_tree ≡ list_function
  pub choices : lowered_function choice_tree ≡ choice_function
  pub receives : lowered_function receive_tree ≡ receive_function
  pub values : lowered_function values_tree ≡ values_function
  pub raises : lowered_function raise_tree ≡ raise_function
