-- The names of variables matter neither to the events of a program nor to their owners.
use Rattle.std.proofs.Common.{◌≡◌, ℕ, suc, ◌+◌, List, [], ◌∷◌, ◌++◌, length, refl, ap, ◌∙◌}
use Rattle.hy_core.specs.Resolved as r
use Rattle.hy_core.specs.Resolved.{Expression, Expressions, NoExpressions, MoreExpressions}
use Rattle.hy_core.specs.Resolved.{Clauses, NoClauses, MoreClauses}
use Rattle.hy_core.specs.Resolved.{Functions, NoFunctions, MoreFunctions, FunctionTree}
use Rattle.hy_core.specs.Scopes.{Scope, with_patterns, with_variables}
use Rattle.lifted_numbers.specs.TreeNumbers.{all_numbers, clauses_numbers, functions_numbers}
use Rattle.lifted_numbers.specs.TreeNumbers.{head_numbers, numbers}
use Rattle.lifted_program.specs.LetrecNumbers.{count, count_all, count_clauses, count_functions}
use Rattle.lifted_program.specs.Renaming.{renamed, renamed_all, renamed_clauses}
use Rattle.lifted_program.specs.Renaming.{renamed_functions, renamed_program}
use Rattle.number_owners.specs.EventLaws.{RenamedEventsStay}
use Rattle.number_owners.specs.EventOwners.{all_event_owners, clauses_event_owners, event_owners}
use Rattle.number_owners.specs.EventOwners.{event_owners_from, functions_event_owners}
use Rattle.number_owners.specs.EventOwners.{head_event_owners, program_events}

-- as many functions of letrecs, the same events, and the same owners
record Same (e f : Expression) : Type 0 where
  counts : count e ≡ count f
  events : (numbers e).events ≡ (numbers f).events
  owns : (k n : ℕ) → event_owners k n e ≡ event_owners k n f

record AllSame (es fs : Expressions) : Type 0 where
  counts : count_all es ≡ count_all fs
  events : (all_numbers es).events ≡ (all_numbers fs).events
  owns : (k n : ℕ) → all_event_owners k n es ≡ all_event_owners k n fs

record ClausesSame (cs ds : Clauses) : Type 0 where
  counts : count_clauses cs ≡ count_clauses ds
  events : (clauses_numbers cs).events ≡ (clauses_numbers ds).events
  owns : (k n : ℕ) → clauses_event_owners k n cs ≡ clauses_event_owners k n ds

record FunctionsSame (fs gs : Functions) : Type 0 where
  counts : count_functions fs ≡ count_functions gs
  events : (functions_numbers fs).events ≡ (functions_numbers gs).events
  owns : (n : ℕ) → functions_event_owners n fs ≡ functions_event_owners n gs

same : (e : Expression) → Same e e
same e = record { counts = refl; events = refl; owns = λ k n. refl }

module _ (limit : ℕ) where
  mutual
    renamed_same : (e : Expression) (scope : Scope) → Same (renamed limit scope e) e
    renamed_same (r.Int v) scope = same (r.Int v)
    renamed_same (r.Atom a) scope = same (r.Atom a)
    renamed_same r.Nil scope = same r.Nil
    renamed_same (r.Text site text) scope = same (r.Text site text)
    renamed_same r.Refused scope = same r.Refused
    renamed_same (r.Variable x) scope =
        record { counts = refl; events = refl; owns = λ k n. refl }
    renamed_same (r.Tuple site es) scope =
        let h = all_renamed_same es scope in
        record { counts = h.counts; events = h.events; owns = h.owns }
    renamed_same (r.ListOf site es e) scope =
        let h = all_renamed_same es scope in
        let g = renamed_same e scope in record {
          counts = λ i. h.counts i + g.counts i;
          events = λ i. h.events i ++ g.events i;
          owns = λ k n i. h.owns k n i ++ g.owns k (n + h.counts i) i;
        }
    renamed_same (r.Values es) scope =
        let h = all_renamed_same es scope in
        record { counts = h.counts; events = h.events; owns = h.owns }
    renamed_same (r.Let xs e b) scope =
        let h = renamed_same e scope in
        let g = renamed_same b (with_variables scope xs) in record {
          counts = λ i. h.counts i + g.counts i;
          events = λ i. h.events i ++ g.events i;
          owns = λ k n i. h.owns k n i ++ g.owns k (n + h.counts i) i;
        }
    renamed_same (r.Do e b) scope =
        let h = renamed_same e scope in
        let g = renamed_same b scope in record {
          counts = λ i. h.counts i + g.counts i;
          events = λ i. h.events i ++ g.events i;
          owns = λ k n i. h.owns k n i ++ g.owns k (n + h.counts i) i;
        }
    renamed_same (r.Case e cs) scope =
        let h = renamed_same e scope in
        let g = clauses_renamed_same cs scope in record {
          counts = λ i. h.counts i + g.counts i;
          events = λ i. h.events i ++ g.events i;
          owns = λ k n i. h.owns k n i ++ g.owns k (n + h.counts i) i;
        }
    renamed_same (r.Letrec fs e) scope =
        let h = functions_renamed_same fs scope in
        let g = renamed_same e scope in record {
          counts = λ i. h.counts i + g.counts i;
          events = λ i. h.events i ++ g.events i;
          owns = λ k n i. h.owns n i ++ g.owns k (n + h.counts i) i;
        }
    renamed_same (r.Call head es) scope =
        let h = all_renamed_same es scope in record {
          counts = h.counts;
          events = λ i. (head_numbers head).events ++ h.events i;
          owns = λ k n i. head_event_owners k head ++ h.owns k n i;
        }
    renamed_same (r.Receive cs timeout e) scope =
        let h = clauses_renamed_same cs scope in
        let g = renamed_same e scope in record {
          counts = λ i. h.counts i + g.counts i;
          events = λ i. h.events i ++ g.events i;
          owns = λ k n i. h.owns k n i ++ g.owns k (n + h.counts i) i;
        }

    all_renamed_same : (es : Expressions) (scope : Scope) → AllSame (renamed_all limit scope es) es
    all_renamed_same NoExpressions scope =
        record { counts = refl; events = refl; owns = λ k n. refl }
    all_renamed_same (MoreExpressions e es) scope =
        let h = renamed_same e scope in
        let g = all_renamed_same es scope in record {
          counts = λ i. h.counts i + g.counts i;
          events = λ i. h.events i ++ g.events i;
          owns = λ k n i. h.owns k n i ++ g.owns k (n + h.counts i) i;
        }

    clauses_renamed_same : (cs : Clauses) (scope : Scope)
        → ClausesSame (renamed_clauses limit scope cs) cs
    clauses_renamed_same NoClauses scope =
        record { counts = refl; events = refl; owns = λ k n. refl }
    clauses_renamed_same (MoreClauses ps g b cs) scope =
        let inside = with_patterns scope ps in
        let p = renamed_same g inside in
        let q = renamed_same b inside in
        let s = clauses_renamed_same cs scope in record {
          counts = λ i. p.counts i + (q.counts i + s.counts i);
          events = λ i. p.events i ++ (q.events i ++ s.events i);
          owns = λ k n i.
              p.owns k n i
              ++ (q.owns k (n + p.counts i) i ++ s.owns k (n + p.counts i + q.counts i) i);
        }

    functions_renamed_same : (fs : Functions) (scope : Scope)
        → FunctionsSame (renamed_functions limit scope fs) fs
    functions_renamed_same NoFunctions scope =
        record { counts = refl; events = refl; owns = λ n. refl }
    functions_renamed_same (MoreFunctions f xs b fs) scope =
        let h = renamed_same b (with_variables scope xs) in
        let g = functions_renamed_same fs scope in record {
          counts = λ i. suc (h.counts i + g.counts i);
          events = λ i. h.events i ++ g.events i;
          owns = λ n i. h.owns n (suc n) i ++ g.owns (suc (n + h.counts i)) i;
        }

  events_stay : (fs : List FunctionTree)
      → program_events (renamed_program limit fs) ≡ program_events fs
  events_stay [] = refl
  events_stay (f ∷ fs) =
      let h = renamed_same f.body (with_variables [] f.parameters) in
      λ i. h.events i ++ events_stay fs i

  owners_stay : (k n : ℕ) (fs : List FunctionTree)
      → event_owners_from k n (renamed_program limit fs) ≡ event_owners_from k n fs
  owners_stay k n [] = refl
  owners_stay k n (f ∷ fs) =
      let h = renamed_same f.body (with_variables [] f.parameters) in
      λ i. h.owns k n i
      ++ (ap (λ c. event_owners_from (suc k) (n + c) (renamed_program limit fs)) h.counts
      ∙ owners_stay (suc k) (n + count f.body) fs) i

  as_many : (fs : List FunctionTree) → length (renamed_program limit fs) ≡ length fs
  as_many [] = refl
  as_many (f ∷ fs) = ap (λ n. suc n) (as_many fs)

pub renamed_events : RenamedEventsStay
renamed_events limit program = (
  events_stay limit program,
  ap (λ n. event_owners_from 0 n (renamed_program limit program)) (as_many limit program)
      ∙ owners_stay limit 0 (length program) program,
)
