-- When a guard holds, and when a receive accepts.
use Rattle.std.proofs.Common.{◌≡◌, ◌↔◌, ◌⊎◌, ℕ, Bool, true, false, if◌then◌else◌, List, [], ◌∷◌, Option, Some, None, refl, ap, ◌∙◌, inl, inr}
use Rattle.std.proofs.lemmas.Bool.Decides.{Decides-eqb}
use Rattle.hy_terms.specs.Term.{Term, Atom}
use Rattle.hy_core.specs.BuiltIn.{truth}
use Rattle.hy_core.specs.Computation.{Give, Raise, Fault, Act, Call, Birth, Receive, Input, ended}
use Rattle.hy_core.specs.Evaluation.{Doing, choose, denote, evaluated, first_of_two, holds, is_some, is_true}
use Rattle.hy_core.specs.EvaluationLaws.{one_value}
use Rattle.hy_core.specs.Match.{Env, match_all}
use Rattle.hy_core.specs.MatchLaws.{GivesTrue, GuardHolds, SomeClauseHolds, AcceptsByClause}
use Rattle.hy_core.specs.Resolved.{Clauses, NoClauses, MoreClauses, FunctionTree}

true_is : (t : Term) → is_true t ≡ true → t ≡ truth true
true_is (Atom a) h = ap Atom ((Decides-eqb a 0).0 h)
true_is t h = absurd cc

module _ (atoms : List (List ℕ)) (pid : ℕ) where
  abbrev EndsTrue : Doing → Type 0
  EndsTrue p = (program : List FunctionTree) (calls : ℕ) (inputs : List (Input Term)) → evaluated program atoms pid calls p inputs ≡ ended calls inputs (one_value (truth true))

  -- by its run without a call and an input
  abbrev AtOnceTrue : Doing → Type 0
  AtOnceTrue p = evaluated [] atoms pid 0 p [] ≡ ended 0 [] (one_value (truth true))

  ends : (p : Doing) → holds p ≡ true → EndsTrue p
  ends (Give (t ∷ [])) h = λ program calls inputs. ap (λ u. ended calls inputs (one_value u)) (true_is t h)
  ends p h = absurd cc

  held : (p : Doing) → AtOnceTrue p → holds p ≡ true
  held (Give []) h = absurd (let e = ap (λ r. r.end) h in cc)
  held (Give (t ∷ [])) h = let e = ap (λ r. r.end) h in let same : t ≡ truth true = cc in ap is_true same
  held (Give (t ∷ u ∷ ts)) h = absurd (let e = ap (λ r. r.end) h in cc)
  held (Raise c v) h = absurd (let e = ap (λ r. r.end) h in cc)
  held Fault h = absurd (let e = ap (λ r. r.end) h in cc)
  held (Act a p) h = absurd (let e = ap (λ r. r.events) h in cc)
  held (Call f vs k j) h = absurd (let e = ap (λ r. r.end) h in cc)
  held (Birth k) h = absurd (let e = ap (λ r. r.end) h in cc)
  held (Receive w k p) h = absurd (let e = ap (λ r. r.end) h in cc)

  pub guard_holds : GuardHolds atoms pid
  guard_holds guard env = let p = denote atoms pid guard env in (ends p, λ h. held p (h [] 0 []))

  -- one clause before others

  by_guard : (b : Bool) (env : Env) (guard : Env → Bool) (body : Doing) (others : Option Doing) (G : Env → Type 0) (P : Type 0) → guard env ≡ b → ((e : Env) → (guard e ≡ true) ↔ G e) → (is_some others ≡ true) ↔ P → (is_some (if b then Some body else others) ≡ true) ↔ (((bound : Env) × (Some env ≡ Some bound) × G bound) ⊎ P)
  by_guard true env guard body others G P h g p = (λ s. inl (env, refl, (g env).0 h), λ s. refl)
  by_guard false env guard body others G P h g p = (λ s. inr (p.0 s), λ s. elim s [ inl m ↦ absurd (let same : env ≡ m.0 = cc in let t : guard env ≡ true = ap guard same ∙ (g m.0).1 m.2 in cc) | inr q ↦ p.1 q ])

  by_match : (o : Option Env) (guard : Env → Bool) (body : Env → Doing) (others : Option Doing) (G : Env → Type 0) (P : Type 0) → ((e : Env) → (guard e ≡ true) ↔ G e) → (is_some others ≡ true) ↔ P → (is_some (first_of_two o guard body others) ≡ true) ↔ (((bound : Env) × (o ≡ Some bound) × G bound) ⊎ P)
  by_match None guard body others G P g p = (λ s. inr (p.0 s), λ s. elim s [ inl m ↦ absurd (let h = m.1 in cc) | inr q ↦ p.1 q ])
  by_match (Some env) guard body others G P g p = by_guard (guard env) env guard (body env) others G P refl g p

  chosen_by_clause : (cs : Clauses) (ts : List Term) (env : Env) → (is_some (choose atoms pid cs ts env) ≡ true) ↔ SomeClauseHolds atoms pid cs ts env
  chosen_by_clause NoClauses ts env = (λ h. absurd cc, λ h. absurd h)
  chosen_by_clause (MoreClauses ps guard body cs) ts env =
      by_match (match_all ps ts env) (λ e. holds (denote atoms pid guard e)) (λ e. denote atoms pid body e) (choose atoms pid cs ts env) (GivesTrue atoms pid guard) (SomeClauseHolds atoms pid cs ts env) (guard_holds guard)
      (chosen_by_clause cs ts env)

  pub accepts_by_clause : AcceptsByClause atoms pid
  accepts_by_clause wait message = chosen_by_clause wait.clauses (message ∷ []) wait.env
