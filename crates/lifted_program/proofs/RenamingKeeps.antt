-- A renamed program does what the program does.
use Rattle.std.proofs.Common.{◌≡◌, ℕ, List, [], ◌∷◌, Option, Some, None, Bool, true, false, refl}
use Rattle.std.proofs.Common.{sym, ap, ◌∙◌, subst}
use Rattle.std.specs.Prelude.{if◌then◌else◌, slice_get, option_map}
use Rattle.std.proofs.lemmas.Option.{slice_get-map}
use Rattle.hy_terms.specs.Term as term
use Rattle.hy_terms.specs.Term.{Term, Terms, NoTerms, MoreTerms, terms_of}
use Rattle.hy_core.specs.declared.class.Class.{Class}
use Rattle.hy_core.specs.declared.tree.FunName.{FunName}
use Rattle.hy_core.specs.BuiltIn.{Answer, Value, Raises, NoAnswer, answer}
use Rattle.hy_core.specs.Comparison.{SameWait}
use Rattle.hy_core.specs.Computation.{Give, Raise, Call, Receive, bind}
use Rattle.hy_core.specs.Event.{Event, Sent, Spawned, Printed}
use Rattle.hy_core.specs.Evaluation.{Callee, Top, Inner, Wait, Doing, give, single, in_env}
use Rattle.hy_core.specs.Evaluation.{or_fault, or_no_clause, value_of, answered, conses, call}
use Rattle.hy_core.specs.Evaluation.{defines, local_callee, call_if, send_to, send, display, raise}
use Rattle.hy_core.specs.Evaluation.{fail, setelement, holds, first_of_two, lapse, act_on, denote}
use Rattle.hy_core.specs.Evaluation.{denote_all, choose, function_named, enter, body_of, is_some}
use Rattle.hy_core.specs.Match.{Env, Empty, Bound, Locals, lookup, bind_variables, and_then}
use Rattle.hy_core.specs.Match.{on_true, match, match_parts, match_heads, match_all}
use Rattle.hy_core.specs.Resolved as r
use Rattle.hy_core.specs.Resolved.{Pattern, Patterns, NoPatterns, MorePatterns, Head, Timeout}
use Rattle.hy_core.specs.Resolved.{AtOnce, Never, Expression, Expressions, NoExpressions}
use Rattle.hy_core.specs.Resolved.{MoreExpressions, Clauses, NoClauses, MoreClauses, Functions}
use Rattle.hy_core.specs.Resolved.{NoFunctions, MoreFunctions, FunctionTree, is_name}
use Rattle.hy_core.specs.Scopes.{Scope, with_variables, with_pattern, with_patterns}
use Rattle.lifted_program.specs.Renaming.{name_of, name_for, names_for, renamed_pattern}
use Rattle.lifted_program.specs.Renaming.{renamed_patterns, renamed, renamed_all, renamed_clauses}
use Rattle.lifted_program.specs.Renaming.{renamed_functions, renamed_function, renamed_program}
use Rattle.hy_core.specs.SameBehaviour.{SpawnsOf}
use Rattle.hy_core.specs.SameProgram.{SameProgram, waits}
use Rattle.hy_core.specs.Simulation.{Simulates, map_calls}
use Rattle.hy_core.proofs.SamePrograms.{simulated_program}
use Rattle.hy_core.proofs.SimulatingHere.{mapped_alike, map_attempt}
use Rattle.lifted_program.proofs.Names.{scope_of, renamed_env, lookup_renamed}

module _ (limit : ℕ) where
  -- both match or neither does; the first is of the renamed program
  abbrev MatchedAs : Scope → Option Env → Option Env → Type 0
  MatchedAs scope None None = Unit {0}
  MatchedAs scope (Some env') (Some env) =
      (env' ≡ renamed_env limit env) × (scope_of limit env ≡ scope)
  MatchedAs scope _ _ = ⊥

  bound_as : (x : ℕ) (t : Term) (env : Env) (scope : Scope) → scope_of limit env ≡ scope
      → (Bound (name_for limit scope x) t (renamed_env limit env)
      ≡ renamed_env limit (Bound x t env)) × (scope_of limit (Bound x t env) ≡ x ∷ scope)
  bound_as x t env scope h =
      (ap (λ s. Bound (name_for limit s x) t (renamed_env limit env)) (sym h), ap (λ s. x ∷ s) h)

  and_then_as : (o' o : Option Env) (k' k : Env → Option Env) (before after : Scope)
      → MatchedAs before o' o
      → ((env : Env) → scope_of limit env ≡ before
      → MatchedAs after (k' (renamed_env limit env)) (k env))
      → MatchedAs after (and_then o' k') (and_then o k)
  and_then_as None None k' k before after h g = tt
  and_then_as (Some env') (Some env) k' k before after h g =
      subst (λ z. MatchedAs after (k' z) (k env)) (sym h.0) (g env h.1)
  and_then_as _ _ k' k before after h g = absurd h

  on_true_as : (c : Bool) (env : Env) (scope : Scope) → scope_of limit env ≡ scope
      → MatchedAs scope (on_true c (renamed_env limit env)) (on_true c env)
  on_true_as true env scope h = (refl, h)
  on_true_as false env scope h = tt

  -- these variables are bound to these terms
  variables_as : (xs : List ℕ) (ts : List Term) (env : Env) (scope : Scope) → scope_of limit env
      ≡ scope
      → MatchedAs (with_variables scope xs)
      (bind_variables (names_for limit scope xs) ts (renamed_env limit env))
      (bind_variables xs ts env)
  variables_as [] [] env scope h = (refl, h)
  variables_as [] (t ∷ ts) env scope h = tt
  variables_as (x ∷ xs) [] env scope h = tt
  variables_as (x ∷ xs) (t ∷ ts) env scope h =
      let b = bound_as x t env scope h in
      let inner = x ∷ scope in
      subst
      (λ z. MatchedAs (with_variables inner xs) (bind_variables (names_for limit inner xs) ts z)
      (bind_variables xs ts (Bound x t env))) (sym b.0)
      (variables_as xs ts (Bound x t env) inner b.1)

  mutual
    match_as : (p : Pattern) (t : Term) (env : Env) (scope : Scope) → scope_of limit env ≡ scope
        → MatchedAs (with_pattern scope p)
        (match (renamed_pattern limit scope p) t (renamed_env limit env)) (match p t env)
    match_as (r.AnyTerm x) t env scope h = bound_as x t env scope h
    match_as (r.TheInt n) (term.Int m) env scope h = on_true_as _ env scope h
    match_as (r.TheInt n) _ env scope h = tt
    match_as (r.TheAtom a) (term.Atom b) env scope h = on_true_as _ env scope h
    match_as (r.TheAtom a) _ env scope h = tt
    match_as r.TheNil term.Nil env scope h = (refl, h)
    match_as r.TheNil _ env scope h = tt
    match_as (r.TheText s) t env scope h = on_true_as _ env scope h
    match_as (r.TheTuple ps) (term.Tuple ts) env scope h = parts_as ps ts env scope h
    match_as (r.TheTuple ps) _ env scope h = tt
    match_as (r.TheList ps p) t env scope h =
        let inner = with_patterns scope ps in
        heads_as ps t env scope h (with_pattern inner p)
        (λ u env'. match (renamed_pattern limit inner p) u env') (λ u env'. match p u env')
        (λ u env' g. match_as p u env' inner g)
    match_as (r.Alias x p) t env scope h =
        let b = bound_as x t env scope h in
        let inner = x ∷ scope in
        subst
        (λ z. MatchedAs (with_pattern inner p) (match (renamed_pattern limit inner p) t z)
        (match p t (Bound x t env))) (sym b.0) (match_as p t (Bound x t env) inner b.1)

    parts_as : (ps : Patterns) (ts : Terms) (env : Env) (scope : Scope) → scope_of limit env ≡ scope
        → MatchedAs (with_patterns scope ps)
        (match_parts (renamed_patterns limit scope ps) ts (renamed_env limit env))
        (match_parts ps ts env)
    parts_as NoPatterns NoTerms env scope h = (refl, h)
    parts_as NoPatterns (MoreTerms t ts) env scope h = tt
    parts_as (MorePatterns p ps) NoTerms env scope h = tt
    parts_as (MorePatterns p ps) (MoreTerms t ts) env scope h =
        let inner = with_pattern scope p in
        and_then_as (match (renamed_pattern limit scope p) t (renamed_env limit env))
        (match p t env) (λ env'. match_parts (renamed_patterns limit inner ps) ts env')
        (λ env'. match_parts ps ts env') inner (with_patterns inner ps)
        (match_as p t env scope h) (λ env' g. parts_as ps ts env' inner g)

    heads_as : (ps : Patterns) (t : Term) (env : Env) (scope : Scope) → scope_of limit env ≡ scope
        → (last : Scope) (rest' rest : Term → Env → Option Env)
        → ((u : Term) (env' : Env) → scope_of limit env' ≡ with_patterns scope ps
        → MatchedAs last (rest' u (renamed_env limit env')) (rest u env'))
        → MatchedAs last
        (match_heads (renamed_patterns limit scope ps) rest' t (renamed_env limit env))
        (match_heads ps rest t env)
    heads_as NoPatterns t env scope h last rest' rest k = k t env h
    heads_as (MorePatterns p ps) (term.Cons u t) env scope h last rest' rest k =
        let inner = with_pattern scope p in
        and_then_as (match (renamed_pattern limit scope p) u (renamed_env limit env))
        (match p u env) (λ env'. match_heads (renamed_patterns limit inner ps) rest' t env')
        (λ env'. match_heads ps rest t env') inner last
        (match_as p u env scope h) (λ env' g. heads_as ps t env' inner g last rest' rest k)
    heads_as (MorePatterns p ps) _ env scope h last rest' rest k = tt

  all_as : (ps : Patterns) (ts : List Term) (env : Env) (scope : Scope) → scope_of limit env ≡ scope
      → MatchedAs (with_patterns scope ps)
      (match_all (renamed_patterns limit scope ps) ts (renamed_env limit env)) (match_all ps ts env)
  all_as NoPatterns [] env scope h = (refl, h)
  all_as NoPatterns (t ∷ ts) env scope h = tt
  all_as (MorePatterns p ps) [] env scope h = tt
  all_as (MorePatterns p ps) (t ∷ ts) env scope h =
      let inner = with_pattern scope p in
      and_then_as (match (renamed_pattern limit scope p) t (renamed_env limit env)) (match p t env)
      (λ env'. match_all (renamed_patterns limit inner ps) ts env')
      (λ env'. match_all ps ts env') inner (with_patterns inner ps)
      (match_as p t env scope h) (λ env' g. all_as ps ts env' inner g)

  -- a function of a letrec, and a receive, of the renamed program
  abbrev renamed_callee : Callee → Callee
  renamed_callee (Top f) = Top f
  renamed_callee (Inner f fs env) =
      Inner f (renamed_functions limit (scope_of limit env) fs) (renamed_env limit env)

  abbrev renamed_wait : Wait → Wait
  renamed_wait w =
      record {
        env = renamed_env limit w.env;
        clauses = renamed_clauses limit (scope_of limit w.env) w.clauses;
        timeout = w.timeout;
      }

  abbrev image : Doing → Doing
  image = map_calls renamed_callee renamed_wait

  bind_as : (p' p : Doing) (k' k : List Term → Doing) → p' ≡ image p
      → ((ts : List Term) → k' ts ≡ image (k ts)) → bind p' k' ≡ image (bind p k)
  bind_as p' p k' k h g =
      (λ i. bind (h i) (λ ts. g ts i)) ∙ sym (map_attempt renamed_callee renamed_wait p k Raise)

  single_as : (k' k : Term → Doing) → ((t : Term) → k' t ≡ image (k t)) → (ts : List Term)
      → single k' ts ≡ image (single k ts)
  single_as k' k h [] = refl
  single_as k' k h (t ∷ []) = h t
  single_as k' k h (t ∷ u ∷ ts) = refl

  in_env_as : (o' o : Option Env) (k' k : Env → Doing) (scope : Scope) → MatchedAs scope o' o
      → ((env : Env) → scope_of limit env ≡ scope → k' (renamed_env limit env) ≡ image (k env))
      → in_env k' o' ≡ image (in_env k o)
  in_env_as None None k' k scope h g = refl
  in_env_as (Some env') (Some env) k' k scope h g = ap k' h.0 ∙ g env h.1
  in_env_as _ _ k' k scope h g = absurd h

  value_as : (o : Option Term) → value_of o ≡ image (value_of o)
  value_as None = refl
  value_as (Some t) = refl

  answered_as : (a : Answer) → answered a ≡ image (answered a)
  answered_as (Value t) = refl
  answered_as (Raises class reason) = refl
  answered_as NoAnswer = refl

  setelement_as : (ts : List Term) → setelement ts ≡ image (setelement ts)
  setelement_as (i ∷ t ∷ v ∷ []) = answered_as _
  setelement_as _ = refl

  send_to_as : (to t : Term) → send_to to t ≡ image (send_to to t)
  send_to_as (term.Pid to) t = refl
  send_to_as _ t = refl

  send_as : (ts : List Term) → send ts ≡ image (send ts)
  send_as (to ∷ t ∷ []) = send_to_as to t
  send_as _ = refl

  display_as : (ts : List Term) → display ts ≡ image (display ts)
  display_as (t ∷ []) = refl
  display_as _ = refl

  raise_as : (class : Class) (ts : List Term) → raise class ts ≡ image (raise class ts)
  raise_as class (t ∷ []) = refl
  raise_as class _ = refl

  fail_as : (ts : List Term) → fail ts ≡ image (fail ts)
  fail_as (t ∷ []) = refl
  fail_as _ = refl

  call_as : (c : Callee) (ts : List Term) → call (renamed_callee c) ts ≡ image (call c ts)
  call_as c ts = λ i. Call (renamed_callee c) ts (λ us. single_as give give (λ t. refl) us i) Raise

  defines_as : (f : FunName) (scope : Scope) (fs : Functions)
      → defines f (renamed_functions limit scope fs) ≡ defines f fs
  defines_as f scope NoFunctions = refl
  defines_as f scope (MoreFunctions g xs b fs) =
      ap (λ c. if is_name g f then true else c) (defines_as f scope fs)

  local_as : (f : FunName) (env : Env) → local_callee f (renamed_env limit env)
      ≡ option_map renamed_callee (local_callee f env)
  local_as f Empty = refl
  local_as f (Bound x t env) = local_as f env
  local_as f (Locals fs env) =
      ap
      (λ c. if c then Some
      (Inner f (renamed_functions limit (scope_of limit env) fs) (renamed_env limit env))
      else local_callee f (renamed_env limit env)) (defines_as f (scope_of limit env) fs)
      ∙ by_case (local_as f env) (defines f fs)
    where
      by_case : local_callee f (renamed_env limit env)
          ≡ option_map renamed_callee (local_callee f env) → (c : Bool)
          → (if c then Some
          (Inner f (renamed_functions limit (scope_of limit env) fs) (renamed_env limit env))
          else local_callee f (renamed_env limit env))
          ≡ option_map renamed_callee (if c then Some (Inner f fs env) else local_callee f env)
      by_case rest true = refl
      by_case rest false = rest

  call_if_as : (o : Option Callee) (ts : List Term) → call_if (option_map renamed_callee o) ts
      ≡ image (call_if o ts)
  call_if_as None ts = refl
  call_if_as (Some c) ts = call_as c ts

  abbrev option_as : Option Doing → Option Doing
  option_as = option_map image

  or_fault_as : (o : Option Doing) → or_fault (option_as o) ≡ image (or_fault o)
  or_fault_as None = refl
  or_fault_as (Some p) = refl

  or_no_clause_as : (o : Option Doing) → or_no_clause (option_as o) ≡ image (or_no_clause o)
  or_no_clause_as None = refl
  or_no_clause_as (Some p) = refl

  lapse_as : (timeout : Timeout) (p : Doing) → lapse timeout (image p) ≡ image (lapse timeout p)
  lapse_as AtOnce p = refl
  lapse_as Never p = refl

  holds_as : (p : Doing) → holds (image p) ≡ holds p
  holds_as (Give (t ∷ [])) = refl
  holds_as _ = refl

  first_as : (o' o : Option Env) (g' g : Env → Bool) (b' b : Env → Doing)
      (others' others : Option Doing) (scope : Scope) → MatchedAs scope o' o
      → ((env : Env) → scope_of limit env ≡ scope → g' (renamed_env limit env) ≡ g env)
      → ((env : Env) → scope_of limit env ≡ scope → b' (renamed_env limit env) ≡ image (b env))
      → others' ≡ option_as others → first_of_two o' g' b' others'
      ≡ option_as (first_of_two o g b others)
  first_as None None g' g b' b others' others scope m hg hb ho = ho
  first_as (Some env') (Some env) g' g b' b others' others scope m hg hb ho =
      ap (λ z. if g' z then Some (b' z) else others') m.0
      ∙ ap (λ c. if c then Some (b' (renamed_env limit env)) else others') (hg env m.1)
      ∙ by_case (g env)
    where
      by_case : (c : Bool) → (if c then Some (b' (renamed_env limit env)) else others')
          ≡ option_as (if c then Some (b env) else others)
      by_case true = ap Some (hb env m.1)
      by_case false = ho
  first_as _ _ g' g b' b others' others scope m hg hb ho = absurd m

  module _ (atoms : List (List ℕ)) (pid : ℕ) where
    act_as : (head : Head) (env : Env) (ts : List Term)
        → act_on atoms pid head (renamed_env limit env) ts ≡ image (act_on atoms pid head env ts)
    act_as (r.BuiltIn b) env ts = answered_as (answer atoms pid b ts)
    act_as (r.Function f) env ts = call_as (Top f) ts
    act_as (r.Local f) env ts =
        ap (λ o. call_if o ts) (local_as f env) ∙ call_if_as (local_callee f env) ts
    act_as (r.Setelement site) env ts = setelement_as ts
    act_as (r.Send node) env ts = send_as ts
    act_as (r.Spawn node f) env ts = refl
    act_as (r.Display node) env ts = display_as ts
    act_as (r.Raising class) env ts = raise_as class ts
    act_as r.MatchFail env ts = fail_as ts

    mutual
      denote_as : (e : Expression) (env : Env) (scope : Scope) → scope_of limit env ≡ scope
          → denote atoms pid (renamed limit scope e) (renamed_env limit env)
          ≡ image (denote atoms pid e env)
      denote_as (r.Int n) env scope h = refl
      denote_as (r.Atom a) env scope h = refl
      denote_as r.Nil env scope h = refl
      denote_as (r.Text site s) env scope h = refl
      denote_as (r.Variable x) env scope h =
          ap (λ s. value_of (lookup (name_of limit s x) (renamed_env limit env))) (sym h)
          ∙ ap value_of (lookup_renamed limit env x) ∙ value_as (lookup x env)
      denote_as (r.Tuple site es) env scope h =
          bind_as (denote_all atoms pid (renamed_all limit scope es) (renamed_env limit env))
          (denote_all atoms pid es env) (λ ts. give (term.Tuple (terms_of ts)))
          (λ ts. give (term.Tuple (terms_of ts))) (all_denote_as es env scope h) (λ ts. refl)
      denote_as (r.ListOf site es e) env scope h =
          bind_as (denote_all atoms pid (renamed_all limit scope es) (renamed_env limit env))
          (denote_all atoms pid es env)
          (λ ts. bind (denote atoms pid (renamed limit scope e) (renamed_env limit env))
          (single (λ t. give (conses ts t))))
          (λ ts. bind (denote atoms pid e env) (single (λ t. give (conses ts t))))
          (all_denote_as es env scope h)
          (λ ts. bind_as (denote atoms pid (renamed limit scope e) (renamed_env limit env))
          (denote atoms pid e env) (single (λ t. give (conses ts t)))
          (single (λ t. give (conses ts t))) (denote_as e env scope h)
          (single_as (λ t. give (conses ts t)) (λ t. give (conses ts t)) (λ t. refl)))
      denote_as (r.Values es) env scope h = all_denote_as es env scope h
      denote_as (r.Let xs e b) env scope h =
          let inner = with_variables scope xs in
          bind_as (denote atoms pid (renamed limit scope e) (renamed_env limit env))
          (denote atoms pid e env)
          (λ ts. in_env (denote atoms pid (renamed limit inner b))
          (bind_variables (names_for limit scope xs) ts (renamed_env limit env)))
          (λ ts. in_env (denote atoms pid b) (bind_variables xs ts env))
          (denote_as e env scope h)
          (λ ts. in_env_as (bind_variables (names_for limit scope xs) ts (renamed_env limit env))
          (bind_variables xs ts env) (denote atoms pid (renamed limit inner b))
          (denote atoms pid b) inner (variables_as xs ts env scope h)
          (λ env' g. denote_as b env' inner g))
      denote_as (r.Do e b) env scope h =
          bind_as (denote atoms pid (renamed limit scope e) (renamed_env limit env))
          (denote atoms pid e env)
          (single (λ t. denote atoms pid (renamed limit scope b) (renamed_env limit env)))
          (single (λ t. denote atoms pid b env))
          (denote_as e env scope h)
          (single_as (λ t. denote atoms pid (renamed limit scope b) (renamed_env limit env))
          (λ t. denote atoms pid b env) (λ t. denote_as b env scope h))
      denote_as (r.Case e cs) env scope h =
          bind_as (denote atoms pid (renamed limit scope e) (renamed_env limit env))
          (denote atoms pid e env)
          (λ ts. or_no_clause
          (choose atoms pid (renamed_clauses limit scope cs) ts (renamed_env limit env)))
          (λ ts. or_no_clause (choose atoms pid cs ts env))
          (denote_as e env scope h)
          (λ ts. ap or_no_clause (choose_as cs ts env scope h)
          ∙ or_no_clause_as (choose atoms pid cs ts env))
      denote_as (r.Letrec fs e) env scope h =
          ap
          (λ s. denote atoms pid (renamed limit scope e)
          (Locals (renamed_functions limit s fs) (renamed_env limit env))) (sym h)
          ∙ denote_as e (Locals fs env) scope h
      denote_as (r.Call head es) env scope h =
          bind_as (denote_all atoms pid (renamed_all limit scope es) (renamed_env limit env))
          (denote_all atoms pid es env) (act_on atoms pid head (renamed_env limit env))
          (act_on atoms pid head env) (all_denote_as es env scope h) (act_as head env)
      denote_as (r.Receive cs timeout e) env scope h =
          λ i. Receive
          (record {
            env = renamed_env limit env;
            clauses = renamed_clauses limit (sym h i) cs;
            timeout = timeout;
          })
          (λ t.
          (ap or_fault (choose_as cs (t ∷ []) env scope h)
          ∙ or_fault_as (choose atoms pid cs (t ∷ []) env)) i)
          ((ap (lapse timeout) (denote_as e env scope h)
          ∙ lapse_as timeout (denote atoms pid e env)) i)
      denote_as r.Refused env scope h = refl

      all_denote_as : (es : Expressions) (env : Env) (scope : Scope) → scope_of limit env ≡ scope
          → denote_all atoms pid (renamed_all limit scope es) (renamed_env limit env)
          ≡ image (denote_all atoms pid es env)
      all_denote_as NoExpressions env scope h = refl
      all_denote_as (MoreExpressions e es) env scope h =
          let others' = denote_all atoms pid (renamed_all limit scope es) (renamed_env limit env) in
          let others = denote_all atoms pid es env in
          bind_as (denote atoms pid (renamed limit scope e) (renamed_env limit env))
          (denote atoms pid e env) (single (λ t. bind others' (λ ts. Give (t ∷ ts))))
          (single (λ t. bind others (λ ts. Give (t ∷ ts))))
          (denote_as e env scope h)
          (single_as (λ t. bind others' (λ ts. Give (t ∷ ts)))
          (λ t. bind others (λ ts. Give (t ∷ ts)))
          (λ t. bind_as others' others (λ ts. Give (t ∷ ts)) (λ ts. Give (t ∷ ts))
          (all_denote_as es env scope h) (λ ts. refl)))

      choose_as : (cs : Clauses) (ts : List Term) (env : Env) (scope : Scope) → scope_of limit env
          ≡ scope → choose atoms pid (renamed_clauses limit scope cs) ts (renamed_env limit env)
          ≡ option_as (choose atoms pid cs ts env)
      choose_as NoClauses ts env scope h = refl
      choose_as (MoreClauses ps g b cs) ts env scope h =
          let inner = with_patterns scope ps in
          first_as (match_all (renamed_patterns limit scope ps) ts (renamed_env limit env))
          (match_all ps ts env) (λ env'. holds (denote atoms pid (renamed limit inner g) env'))
          (λ env'. holds (denote atoms pid g env'))
          (λ env'. denote atoms pid (renamed limit inner b) env') (λ env'. denote atoms pid b env')
          (choose atoms pid (renamed_clauses limit scope cs) ts (renamed_env limit env))
          (choose atoms pid cs ts env) inner
          (all_as ps ts env scope h)
          (λ env' k. ap holds (denote_as g env' inner k) ∙ holds_as (denote atoms pid g env'))
          (λ env' k. denote_as b env' inner k) (choose_as cs ts env scope h)

    function_named_as : (f : FunName) (scope : Scope) (fs : Functions)
        → function_named f (renamed_functions limit scope fs)
        ≡ option_map (renamed_function limit scope) (function_named f fs)
    function_named_as f scope NoFunctions = refl
    function_named_as f scope (MoreFunctions g xs b fs) =
        by_case (function_named_as f scope fs) (is_name g f)
      where
        by_case : function_named f (renamed_functions limit scope fs)
            ≡ option_map (renamed_function limit scope) (function_named f fs) → (c : Bool)
            → (if c then Some
            (renamed_function limit scope (record { parameters = xs; body = b }))
            else function_named f (renamed_functions limit scope fs))
            ≡ option_map (renamed_function limit scope)
            (if c then Some (record { parameters = xs; body = b }) else function_named f fs)
        by_case rest true = refl
        by_case rest false = rest

    enter_as : (program' program : List FunctionTree) (o : Option FunctionTree) (ts : List Term)
        (env : Env) (scope : Scope) → scope_of limit env ≡ scope
        → enter program' atoms pid (option_map (renamed_function limit scope) o) ts
        (renamed_env limit env) ≡ image (enter program atoms pid o ts env)
    enter_as program' program None ts env scope h = refl
    enter_as program' program (Some f) ts env scope h =
        let inner = with_variables scope f.parameters in
        in_env_as (bind_variables (names_for limit scope f.parameters) ts (renamed_env limit env))
        (bind_variables f.parameters ts env) (denote atoms pid (renamed limit inner f.body))
        (denote atoms pid f.body) inner (variables_as f.parameters ts env scope h)
        (λ env' g. denote_as f.body env' inner g)

    module _ (program : List FunctionTree) where
      body_as : (c : Callee) (ts : List Term)
          → body_of (renamed_program limit program) atoms pid (renamed_callee c) ts
          ≡ image (body_of program atoms pid c ts)
      body_as (Top f) ts =
          ap (λ o. enter (renamed_program limit program) atoms pid o ts Empty)
          (slice_get-map (renamed_function limit []) program f)
          ∙ enter_as (renamed_program limit program) program (slice_get program f) ts Empty [] refl
      body_as (Inner f fs env) ts =
          let scope = scope_of limit env in
          ap
          (λ o. enter (renamed_program limit program) atoms pid o ts
          (renamed_env limit (Locals fs env))) (function_named_as f scope fs)
          ∙ enter_as (renamed_program limit program) program (function_named f fs) ts
          (Locals fs env) scope refl

      some_as : (o : Option Doing) → is_some (option_as o) ≡ is_some o
      some_as None = refl
      some_as (Some p) = refl

      wait_as : (w : Wait)
          → SameWait (λ t. t) (waits atoms pid) (waits atoms pid) w (renamed_wait w)
      wait_as w = record {
        timeout = refl;
        accepts =
            λ t. ap is_some (choose_as w.clauses (t ∷ []) w.env (scope_of limit w.env) refl)
            ∙ some_as (choose atoms pid w.clauses (t ∷ []) w.env);
      }

  -- every function may be spawned
  abbrev Any : ℕ → Type 0
  Any f = Unit {0}

  any_spawns : (e : Event Term) → SpawnsOf Any e
  any_spawns (Sent to t) = tt
  any_spawns (Spawned f ts) = tt
  any_spawns (Printed t) = tt

  abbrev RenamedCalls : Callee → List Term → Callee → List Term → Type 0
  RenamedCalls f ts g us = (g ≡ renamed_callee f) × (us ≡ ts)

  -- the functions of the renamed program do what they do in the program
  pub renaming_keeps : (atoms : List (List ℕ)) (source : List FunctionTree) (calls : ℕ)
      → SameProgram Any atoms calls source (renamed_program limit source)
  renaming_keeps atoms source calls =
      simulated_program Any RenamedCalls atoms source (renamed_program limit source)
      (λ f k ts. (refl, refl)) bodies calls
    where
      bodies : (pid : ℕ) (f : Callee) (ts : List Term) (g : Callee) (us : List Term)
          → RenamedCalls f ts g us
          → Simulates (λ t. t) Some (SpawnsOf Any) RenamedCalls (waits atoms pid) (waits atoms pid)
          (body_of source atoms pid f ts) (body_of (renamed_program limit source) atoms pid g us)
      bodies pid f ts g us h =
          let p = body_of source atoms pid f ts in
          let alike = mapped_alike renamed_callee renamed_wait (SpawnsOf Any) any_spawns
          (waits atoms pid) (waits atoms pid) (wait_as atoms pid source) p in
          let same : map_calls renamed_callee renamed_wait p
          ≡ body_of (renamed_program limit source) atoms pid g us =
          sym (body_as atoms pid source f ts)
          ∙ (λ i. body_of (renamed_program limit source) atoms pid (sym h.0 i) (sym h.1 i)) in
          subst
          (Simulates (λ t. t) Some (SpawnsOf Any) RenamedCalls (waits atoms pid)
          (waits atoms pid) p) same alike
