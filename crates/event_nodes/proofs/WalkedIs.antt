-- What a walk over a program finds are its events, with the functions in which they stand.
use Rattle.std.proofs.Common.{◌≡◌, ℕ, suc, ◌+◌, List, [], ◌∷◌, ◌++◌, drop, refl}
use Rattle.std.proofs.Common.{sym, ap, ◌∙◌, arith, append_assoc, append-nil, false, subst}
use Rattle.hy_core.specs.Numbered.{function_count}
use Rattle.hy_core.specs.ProgramTrees.{is_event, true_places}
use Rattle.hy_core.specs.SubPatterns.{patterns_in}
use Rattle.hy_core.specs.Syntax as s
use Rattle.hy_core.specs.Syntax.{Syntax, Syntaxes, NoSyntax, MoreSyntax, syntax_of, pattern_trees}
use Rattle.hy_core.specs.Syntax.{Clauses, NoClauses, MoreClauses}
use Rattle.hy_core.specs.Syntax.{Definitions, NoDefinitions, MoreDefinitions}
use Rattle.hy_core.specs.declared.tree.Function.{Function}
use Rattle.hy_core.specs.declared.tree.Module.{Module}
use Rattle.hy_core.proofs.EventNodes.{all_events, clauses_events, definitions_events, events}
use Rattle.lifted_syntax.specs.ExtractedSyntax.{count_module}
use Rattle.lifted_syntax.specs.LiftedSyntax.{count, count_all, count_clauses, count_definitions}
use Rattle.number_owners.specs.WrittenOwners as o
use Rattle.number_owners.specs.WrittenOwners.{functions_written_owners, modules_functions}
use Rattle.number_owners.specs.WrittenOwners.{program_written_owners}
use Rattle.event_nodes.specs.EventNodes.{chosen_from, functions_nodes, own_count, own_events}
use Rattle.event_nodes.specs.EventNodes.{program_nodes}
use Rattle.event_nodes.specs.code.Distributed.{distributed, empty_lists}
use Rattle.event_nodes.specs.code.Walked.{Walk, begun, nothing_found, walked, walked_all}
use Rattle.event_nodes.specs.code.Walked.{walked_clauses, walked_definitions, walked_functions}
use Rattle.event_nodes.specs.code.Walked.{back, defined, passed, stepped, walked_modules}
use Rattle.event_nodes.specs.code.Walked.{walked_tail}
use Rattle.event_nodes.specs.declared.events.Event.{Event}
use Rattle.event_nodes.proofs.ClauseEvents.{clause_flags, function_flags}
use Rattle.event_nodes.proofs.Distributing.{shared_is}
use Rattle.event_nodes.proofs.Going.{Goes, begins, beside, elsewhere, flat, nodes_of, onward}
use Rattle.event_nodes.proofs.Going.{owners_of, put_back, same_flags, skips, stays, within}

module _ (atoms : List (List ℕ)) where
  abbrev W : (owner n : ℕ) → Syntax → List ℕ
  W = o.written_owners atoms

  abbrev Ws : (owner n : ℕ) → Syntaxes → List ℕ
  Ws = o.all_written_owners atoms

  abbrev Cs : (owner n : ℕ) → Clauses → List ℕ
  Cs = o.clauses_written_owners atoms

  abbrev Fs : (n : ℕ) → Definitions → List ℕ
  Fs = o.definitions_written_owners atoms

  -- nil at the end of a list notation is no node
  tail_goes : (t : Syntax) (k : ℕ) (u : Walk)
      → Goes u (walked atoms k u t) (W k u.next t) (events atoms t) (count t)
      → Goes u (walked_tail atoms k u t) (W k u.next t)
      (drop 1 (events atoms (s.ListOf 0 NoSyntax t))) (count t)
  tail_goes s.Nil k u h = stays u
  tail_goes (s.Int v) k u h = h
  tail_goes _ k u h = h

  mutual
    pub goes : (e : Syntax) (k : ℕ) (w : Walk)
        → Goes w (walked atoms k w e) (W k w.next e) (events atoms e) (count e)
    goes (s.Tuple site es) k w = begins false k w (all_go es k (stepped false k w))
    goes (s.ListOf site es e) k w =
        let inside = stepped false k w in
        let u = walked_all atoms k inside es in
        begins false k w
        (onward (λ n. W k n e) (all_go es k inside) (tail_goes e k u (goes e k u)))
    goes (s.Values es) k w = begins false k w (all_go es k (stepped false k w))
    goes (s.Let xs e b) k w =
        let inside = stepped false k w in
        begins false k w
        (onward (λ n. W k n b) (goes e k inside) (goes b k (walked atoms k inside e)))
    goes (s.Do e b) k w =
        let inside = stepped false k w in
        begins false k w
        (onward (λ n. W k n b) (goes e k inside) (goes b k (walked atoms k inside e)))
    goes (s.Case e cs) k w =
        let inside = stepped false k w in
        begins false k w
        (onward (λ n. Cs k n cs) (goes e k inside) (clauses_go cs k (walked atoms k inside e)))
    goes (s.Letrec fs e) k w =
        let inside = stepped false k w in
        begins false k w
        (onward (λ n. W k n e) (definitions_go fs inside)
        (goes e k (walked_definitions atoms inside fs)))
    goes (s.Apply e es) k w =
        let inside = stepped false k w in
        begins false k w
        (beside (put_back (goes e k inside))
        (all_go es k (back w.next (walked atoms k inside e))))
    goes (s.Call m f es) k w =
        let event = is_event atoms (s.Call m f es) in
        let inside = stepped event k w in
        let u = back w.next (walked atoms k inside m) in
        let v = back w.next (walked atoms k u f) in
        begins event k w
        (flat (W k w.next m) (W k w.next f) (Ws k w.next es)
        (beside (beside (put_back (goes m k inside)) (put_back (goes f k u))) (all_go es k v)))
    goes (s.Primop a es) k w = begins false k w (all_go es k (stepped false k w))
    goes (s.Receive cs t e) k w =
        let inside = stepped false k w in
        let u = walked_clauses atoms k inside cs in
        let v = back u.next (walked atoms k (back w.next u) t) in
        begins false k w
        (flat (Cs k w.next cs) (W k w.next t) (W k (w.next + count_clauses cs) e)
        (onward (λ n. W k n e)
        (elsewhere (clauses_go cs k inside) (goes t k (back w.next u))) (goes e k v)))
    goes (s.Try e xs b ys c) k w =
        let inside = stepped false k w in
        let u = walked atoms k inside e in
        let v = back u.next (walked atoms k (back w.next u) b) in
        begins false k w
        (flat (W k w.next e) (W k w.next b) (W k w.next c)
        (elsewhere (elsewhere (goes e k inside) (goes b k (back w.next u)))
        (goes c k (back w.next v))))
    goes (s.Catch e) k w = begins false k w (put_back (goes e k (stepped false k w)))
    goes (s.Fun xs e) k w = begins false k w (put_back (goes e k (stepped false k w)))
    goes (s.Int v) k w = begins false k w (stays (stepped false k w))
    goes (s.Atom a) k w = begins false k w (stays (stepped false k w))
    goes s.Nil k w = begins false k w (stays (stepped false k w))
    goes (s.Str text) k w = begins false k w (stays (stepped false k w))
    goes (s.Var x) k w = begins false k w (stays (stepped false k w))
    goes (s.Name f) k w = begins false k w (stays (stepped false k w))

    all_go : (es : Syntaxes) (k : ℕ) (w : Walk)
        → Goes w (walked_all atoms k w es) (Ws k w.next es) (all_events atoms es) (count_all es)
    all_go NoSyntax k w = stays w
    all_go (MoreSyntax e es) k w =
        onward (λ n. Ws k n es) (goes e k w) (all_go es k (walked atoms k w e))

    clauses_go : (cs : Clauses) (k : ℕ) (w : Walk)
        → Goes w (walked_clauses atoms k w cs) (Cs k w.next cs) (clauses_events atoms cs)
        (count_clauses cs)
    clauses_go NoClauses k w = stays w
    clauses_go (MoreClauses ps g b cs) k w =
        let u = passed ps w in
        let v = walked atoms k u g in
        same_flags (clause_flags atoms ps g b cs)
        (skips (patterns_in (pattern_trees ps))
        (onward (λ n. W k n b ++ Cs k (n + count b) cs) (goes g k u)
        (onward (λ n. Cs k n cs) (goes b k v) (clauses_go cs k (walked atoms k v b)))))

    definitions_go : (fs : Definitions) (w : Walk)
        → Goes w (walked_definitions atoms w fs) (Fs w.next fs) (definitions_events atoms fs)
        (count_definitions fs)
    definitions_go NoDefinitions w = stays w
    definitions_go (MoreDefinitions f xs b fs) w =
        let v = walked atoms w.next (defined w) b in
        within (λ n. W w.next n b) (λ n. Fs n fs) (goes b w.next (defined w)) (definitions_go fs v)

  -- what a walk over functions of modules adds
  record Adds (w v : Walk) (owners places : List ℕ) (many : ℕ) : Type 0 where
    next : v.next ≡ w.next + many
    owners_are : owners_of v.found ≡ owners_of w.found ++ owners
    nodes_are : nodes_of v.found ≡ nodes_of w.found ++ places

  functions_add : (fs : List Function) (w : Walk)
      → Adds w (walked_functions atoms w fs)
      (functions_written_owners atoms w.function w.next fs) (functions_nodes atoms fs)
      (count_module fs)
  functions_add [] w = record {
    next = omega arith;
    owners_are = sym (append-nil (owners_of w.found));
    nodes_are = sym (append-nil (nodes_of w.found));
  }
  functions_add (f ∷ fs) w =
      let e = syntax_of f.body in
      let v = walked atoms w.function (begun w) e in
      let h = goes e w.function (begun w) in
      let g = functions_add fs v in
      let before = h.next in
      let behind = g.next in
      let further = h.function in
      let function : v.function ≡ suc w.function = omega (arith, further) in
      let own = W w.function w.next e in
      let others : functions_written_owners atoms v.function v.next fs
      ≡ functions_written_owners atoms (suc w.function) (w.next + count e) fs =
      λ i. functions_written_owners atoms (function i) (before i) fs in
      let places : true_places 0 (events atoms e) ++ functions_nodes atoms fs
      ≡ functions_nodes atoms (f ∷ fs) =
      ap (λ bs. true_places 0 bs ++ functions_nodes atoms fs) (sym (function_flags atoms f)) in
      record {
        next = omega (arith, before, behind);
        owners_are =
            g.owners_are ∙ (λ i. h.owners i ++ others i)
            ∙ append_assoc (owners_of w.found) own
            (functions_written_owners atoms (suc w.function) (w.next + count e) fs);
        nodes_are =
            g.nodes_are ∙ ap (λ l. l ++ functions_nodes atoms fs) h.nodes
            ∙ append_assoc (nodes_of w.found) (true_places 0 (events atoms e))
            (functions_nodes atoms fs)
            ∙ ap (λ l. nodes_of w.found ++ l) places;
      }

  functions_both : (fs gs : List Function) (w : Walk)
      → walked_functions atoms w (fs ++ gs)
      ≡ walked_functions atoms (walked_functions atoms w fs) gs
  functions_both [] gs w = refl
  functions_both (f ∷ fs) gs w =
      functions_both fs gs (walked atoms w.function (begun w) (syntax_of f.body))

  modules_are : (ms : List Module) (w : Walk)
      → walked_modules atoms w ms ≡ walked_functions atoms w (modules_functions ms)
  modules_are [] w = refl
  modules_are (m ∷ ms) w =
      modules_are ms (walked_functions atoms w m.functions)
      ∙ sym (functions_both m.functions (modules_functions ms) w)

  program_adds : (ms : List Module)
      → Adds (nothing_found (function_count ms))
      (walked_modules atoms (nothing_found (function_count ms)) ms)
      (program_written_owners atoms ms) (program_nodes atoms ms)
      (count_module (modules_functions ms))
  program_adds ms =
      let start = nothing_found (function_count ms) in
      subst
      (λ v. Adds start v (program_written_owners atoms ms) (program_nodes atoms ms)
      (count_module (modules_functions ms))) (sym (modules_are ms start))
      (functions_add (modules_functions ms) start)

  -- and the lists into which it is shared out
  pub program_shared : (ms : List Module) {first many : ℕ} {w v : Walk} {found : List Event}
      (lists : List (List ℕ)) → first ≡ function_count ms → w ≡ nothing_found first
      → v ≡ walked_modules atoms w ms → many ≡ v.next → found ≡ v.found
      → lists ≡ distributed (empty_lists many) found → lists ≡ own_events atoms ms
  program_shared ms {first} {many} {w} {v} {found} lists count start walk all events shared =
      let u = walked_modules atoms (nothing_found (function_count ms)) ms in
      let whole : v ≡ u =
      walk ∙ ap (λ w. walked_modules atoms w ms) (start ∙ ap nothing_found count) in
      let h = program_adds ms in
      let number : many ≡ own_count ms = all ∙ ap (λ (v : Walk). v.next) whole ∙ h.next in
      let here : found ≡ u.found = events ∙ ap (λ (v : Walk). v.found) whole in
      shared ∙ shared_is many found
      ∙ (λ i. chosen_from 0 (number i) (owners_of (here i)) (nodes_of (here i)))
      ∙ (λ i. chosen_from 0 (own_count ms) (h.owners_are i) (h.nodes_are i))
