-- Small expressions, evaluated: how calls and inputs are used.
use Rattle.std.specs.Prelude.{◌≡◌, List, [], ◌∷◌, pos, negsuc}
use Rattle.hy_terms.specs.Term as term
use Rattle.hy_core.specs.declared.bif.Bif.TheVariants as b
use Rattle.hy_core.specs.declared.tree.FunName.{FunName}
use Rattle.hy_core.specs.BuiltIn.{own_atoms}
use Rattle.hy_core.specs.Computation.{Got, Lapsed, Born, Values, NeedsPid, Spent, Wrong}
use Rattle.hy_core.specs.Evaluation.{eval}
use Rattle.hy_core.specs.Event.{Sent, Spawned}
use Rattle.hy_core.specs.Match.{Empty}
use Rattle.hy_core.specs.Resolved.{Pattern, AnyTerm, TheInt, TheNil, TheList, NoPatterns, MorePatterns, BuiltIn, Local, Send, Spawn, Never, Expression, Int, Atom, Variable, Tuple, Let, Do, Case, Letrec, Call, Receive, Expressions, NoExpressions, MoreExpressions, Clauses, NoClauses, MoreClauses, NoFunctions, MoreFunctions, FunctionTree}

abbrev none : List FunctionTree
none = []

abbrev one : Expression → Expressions
one e = MoreExpressions e NoExpressions

abbrev clause : Pattern → Expression → Clauses → Clauses
clause p e cs = MoreClauses (MorePatterns p NoPatterns) (Atom 0) e cs

abbrev down : FunName
down = record { name = 7; arity = 1 }

-- let <V9> = 42 in letrec f = fun (V0) -> case V0 of <0> -> V9; <V2> -> apply f (V2 + -1) end in
-- apply f (3)
abbrev countdown : Expression
countdown =
    Let (9 ∷ []) (Int (pos 42))
    (Letrec (MoreFunctions down (0 ∷ [])
    (Case (Variable 0) (clause (TheInt (pos 0)) (Variable 9)
    (clause (AnyTerm 2)
    (Call (Local down)
    (one (Call (BuiltIn b.Add) (MoreExpressions (Variable 2) (one (Int (negsuc 0)))))))
    NoClauses))) NoFunctions) (Call (Local down) (one (Int (pos 3)))))

-- a function of a letrec sees what was bound around the letrec, and each call of it costs one
pub record LetrecCounts : Type 0 where
  pub value : eval none own_atoms 0 10 Empty countdown [] ≡ record {
    events = [];
    calls = 6;
    inputs = [];
    end = Values (term.Int (pos 42) ∷ []);
  }
  pub too_few : (eval none own_atoms 0 3 Empty countdown []).end ≡ Spent

-- let <V0> = spawn(1, [1]) in do V0 ! 8 receive <4> -> {V0}; <[V5]> -> V5 after 'infinity' -> 1
abbrev chat : Expression
chat =
    Let (0 ∷ []) (Call (Spawn 1 1) (one (Int (pos 1))))
    (Do (Call (Send 2) (MoreExpressions (Variable 0) (one (Int (pos 8)))))
    (Receive (clause (TheInt (pos 4)) (Tuple 1 (one (Variable 0)))
    (clause (TheList (MorePatterns (AnyTerm 5) NoPatterns) TheNil) (Variable 5) NoClauses))
    Never (Int (pos 1))))

pub record InputsAreUsed : Type 0 where
  pub no_pid : eval none own_atoms 0 0 Empty chat []
      ≡ record {
        events = Spawned 1 (term.Int (pos 1) ∷ []) ∷ [];
        calls = 0;
        inputs = [];
        end = NeedsPid;
      }
  pub sent : (eval none own_atoms 0 0 Empty chat (Born 3 ∷ [])).events ≡ Spawned 1
      (term.Int (pos 1) ∷ []) ∷ Sent 3 (term.Int (pos 8)) ∷ []
  pub got : (eval none own_atoms 0 0 Empty chat
      (Born 3 ∷ Got (term.Cons (term.Int (pos 77)) term.Nil) ∷ [])).end
      ≡ Values (term.Int (pos 77) ∷ [])
  pub not_accepted : (eval none own_atoms 0 0 Empty chat (Born 3 ∷ Got term.Nil ∷ [])).end ≡ Wrong
  pub no_timeout : (eval none own_atoms 0 0 Empty chat (Born 3 ∷ Lapsed ∷ [])).end ≡ Wrong
  pub not_due : (eval none own_atoms 0 0 Empty chat (Lapsed ∷ [])).end ≡ Wrong
