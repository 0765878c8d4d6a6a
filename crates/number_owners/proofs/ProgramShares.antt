-- The entries of a table of sites that name a function are the sites of its lifted tree, and the
-- events that it owns are its events.
use Rattle.std.proofs.Common.{◌≡◌, ℕ, suc, ◌+◌, ◌≤◌, ◌==◌, List, [], ◌∷◌, ◌++◌, map}
use Rattle.std.proofs.Common.{length, refl, sym, ap, ◌∙◌, subst, arith, inl, inr, if◌then◌else◌}
use Rattle.std.proofs.lemmas.List.{length-append, map-append}
use Rattle.std.proofs.lemmas.List.Elements.{All-head, All-tail}
use Rattle.std.specs.List.{All}
use Rattle.core_accepted.specs.TreeSites.{Site, kinds_from, program_tree_sites, tree_sites}
use Rattle.hy_core.specs.KnownTrees.{IsKnownFunction, TreesAreKnown, arities_of}
use Rattle.hy_core.specs.Resolved.{FunctionTree}
use Rattle.hy_core.specs.Scopes.{with_variables}
use Rattle.hy_core.specs.declared.info.SiteInfo.{SiteInfo}
use Rattle.lifted_numbers.proofs.Numbering.{sites_numbered}
use Rattle.lifted_numbers.specs.TreeNumbers.{from, numbers}
use Rattle.lifted_program.specs.LetrecNumbers.{count}
use Rattle.lifted_program.specs.LiftedProgram.{extracted_program, lifted_program}
use Rattle.lifted_program.specs.LiftedProgram.{lifted_tops}
use Rattle.number_owners.specs.ChosenNumbers.{chosen}
use Rattle.number_owners.specs.EventLaws.{HaveOwnEvents, LiftedHaveOwnEvents}
use Rattle.number_owners.specs.EventOwners.{event_owners_from, program_event_owners, program_events}
use Rattle.number_owners.specs.SiteLaws.{AreSitesOf, HaveOwnSites}
use Rattle.number_owners.specs.SiteOwners.{owners_from, program_owners}
use Rattle.number_owners.proofs.Shares.{Inner, Outside, Shares, both_none, in_first}
use Rattle.number_owners.proofs.Shares.{inner_both, inner_first, inner_second}
use Rattle.number_owners.proofs.LiftedShares.{events_in, shared, sites_in}
use Rattle.lifted_syntax.specs.LiftedFunctions.{own_sites}

-- the sites of functions, in the order of the text
abbrev program_numbers : List FunctionTree → List ℕ
program_numbers [] = []
program_numbers (f ∷ fs) = (numbers f.body).sites ++ program_numbers fs

-- part: which numbers of a function are meant; those of functions of modules, of which the first has
-- the number k, and of functions of letrecs, of which the first has the number n
record AllShare (part : FunctionTree → List ℕ) (k n : ℕ) (os ss : List ℕ)
    (tops inner : List FunctionTree) : Type 0 where
  same : length os ≡ length ss
  none : (j : ℕ) → Outside k (length tops) j → Outside n (length inner) j → chosen j os ss ≡ []
  outside : Inner part k tops os ss
  inside : Inner part n inner os ss

-- one function of a module, and behind it others
all_share : (part : FunctionTree → List ℕ) {k n m : ℕ} {os ss ps ts : List ℕ} {t : FunctionTree} {inner tops more : List FunctionTree}
    → suc k + length tops ≤ n → Shares part k n m os ss (part t) inner
    → AllShare part (suc k) (n + m) ps ts tops more
    → AllShare part k n (os ++ ps) (ss ++ ts) (t ∷ tops) (inner ++ more)
all_share part {k = k} {n = n} {m = m} {os = os} {ss = ss} {ps = ps} {ts = ts} {t = t} {inner = inner} {tops = tops} {more = more} low h g = record {
  same = length-append os ps ∙ (λ i. h.same i + g.same i) ∙ sym (length-append ss ts);
  none = λ j top in_letrec.
      both_none j os ps ss ts h.same (h.none j (not_first j top) (first j in_letrec))
      (g.none j (later j top) (second j in_letrec));
  outside = (
    in_first k os ps ss ts (part t) h.same h.owned
        (g.none k (inl (omega arith)) (inl (omega (arith, low)))),
    inner_second part (suc k) tops os ps ss ts h.same
        (λ j over under. h.none j (λ e. omega (arith, e, over)) (inl (omega (arith, under, low))))
        g.outside,
  );
  inside =
      inner_both part n m inner more (os ++ ps) (ss ++ ts) h.many
      (inner_first part n inner os ps ss ts h.same
      (λ j over under. g.none j (inr (omega (arith, low, over))) (inl (omega (arith, under, h.many))))
      h.inside)
      (inner_second part (n + m) more os ps ss ts h.same
      (λ j over under. h.none j (λ e. omega (arith, e, low, over)) (inr over)) g.inside);
}
  where
    both_long : length (inner ++ more) ≡ m + length more
    both_long = length-append inner more ∙ ap (λ c. c + length more) h.many

    not_first : (j : ℕ) → Outside k (length (t ∷ tops)) j → j ≡ k → ⊥
    not_first j (inl under) e = omega (arith, under, e)
    not_first j (inr over) e = omega (arith, over, e)

    first : (j : ℕ) → Outside n (length (inner ++ more)) j → Outside n m j
    first j (inl under) = inl under
    first j (inr over) = inr (omega (arith, over, both_long))

    later : (j : ℕ) → Outside k (length (t ∷ tops)) j → Outside (suc k) (length tops) j
    later j (inl under) = inl (omega (arith, under))
    later j (inr over) = inr (omega (arith, over))

    second : (j : ℕ) → Outside n (length (inner ++ more)) j → Outside (n + m) (length more) j
    second j (inl under) = inl (omega (arith, under))
    second j (inr over) = inr (omega (arith, over, both_long))

module _ (arities : List ℕ) (captured : ℕ → List ℕ) where
  pub tops_long : (n : ℕ) (fs : List FunctionTree) → length (lifted_tops captured n fs) ≡ length fs
  tops_long n [] = refl
  tops_long n (f ∷ fs) = ap (λ c. suc c) (tops_long (n + count f.body) fs)

  -- the sites and the events of functions
  record BothShare (k n : ℕ) (fs : List FunctionTree) : Type 0 where
    sites : AllShare sites_in k n (owners_from k n fs) (program_numbers fs)
        (lifted_tops captured n fs) (extracted_program captured n fs)
    events : AllShare events_in k n (event_owners_from k n fs) (program_events fs)
        (lifted_tops captured n fs) (extracted_program captured n fs)

  functions_share : (k n : ℕ) (fs : List FunctionTree) → k + length fs ≤ n
      → All (IsKnownFunction arities) fs → BothShare k n fs
  functions_share k n [] low known = record {
    sites = record { same = refl; none = λ j top inner. refl; outside = tt; inside = tt };
    events = record { same = refl; none = λ j top inner. refl; outside = tt; inside = tt };
  }
  functions_share k n (f ∷ fs) low known =
      let under : suc k + length (lifted_tops captured (n + count f.body) fs) ≤ n =
      let long = tops_long (n + count f.body) fs in omega (arith, low, long) in
      let first = shared arities captured f.body (with_variables [] f.parameters) [] 1 [] k n
      (omega (arith, low)) (λ g is. absurd cc) (All-head (IsKnownFunction arities) f fs known) in
      let others = functions_share (suc k) (n + count f.body) fs (omega (arith, low))
      (All-tail (IsKnownFunction arities) f fs known) in record {
        sites = all_share sites_in under first.sites others.sites;
        events = all_share events_in under first.events others.events;
      }

-- the numbers of the sites of a table

numbers_are : (n : ℕ) (sites : List SiteInfo)
    → map (λ (s : Site). s.0) (kinds_from n sites) ≡ from n (length sites)
numbers_are n [] = refl
numbers_are n (site ∷ sites) = ap (λ ns. n ∷ ns) (numbers_are (suc n) sites)

program_numbered : (fs : List FunctionTree)
    → program_numbers fs ≡ map (λ (s : Site). s.0) (program_tree_sites fs)
program_numbered [] = refl
program_numbered (f ∷ fs) =
    (λ i. sites_numbered f.body i ++ program_numbered fs i)
    ∙ sym (map-append (λ (s : Site). s.0) (tree_sites f.body) (program_tree_sites fs))

chosen_are : (k n : ℕ) (sites : List SiteInfo)
    → own_sites k n sites ≡ chosen k (map (λ s. s.function) sites) (from n (length sites))
chosen_are k n [] = refl
chosen_are k n (site ∷ sites) =
    ap (λ ns. if site.function == k then n ∷ ns else ns) (chosen_are k (suc n) sites)

own_are : (sites : List SiteInfo) (k : ℕ) (ts : List FunctionTree)
    → Inner sites_in k ts (map (λ s. s.function) sites) (from 0 (length sites))
    → HaveOwnSites sites k ts
own_are sites k [] h = tt
own_are sites k (t ∷ ts) h = (chosen_are k 0 sites ∙ h.0, own_are sites (suc k) ts h.1)

pub lifted_own_sites : (captured : ℕ → List ℕ) (program : List FunctionTree)
    (sites : List SiteInfo) → TreesAreKnown program → AreSitesOf sites program
    → HaveOwnSites sites 0 (lifted_program captured program)
lifted_own_sites captured program sites known are =
    let n = length program in
    let all = (functions_share (arities_of program) captured 0 n program (omega arith) known).sites in
    let tops = lifted_tops captured n program in
    let os = program_owners program in
    let ss = program_numbers program in
    let first : n ≡ 0 + n = omega arith in
    let numbered : ss ≡ from 0 (length sites) =
    program_numbered program ∙ ap (map (λ (s : Site). s.0)) are.kinds ∙ numbers_are 0 sites in
    own_are sites 0 (lifted_program captured program)
    (subst (λ os. Inner sites_in 0 (lifted_program captured program) os (from 0 (length sites))) are.functions
    (subst (λ ss. Inner sites_in 0 (lifted_program captured program) os ss) numbered
    (inner_both sites_in 0 n tops (extracted_program captured n program) os ss
    (tops_long (arities_of program) captured n program) all.outside
    (subst (λ m. Inner sites_in m (extracted_program captured n program) os ss) first all.inside))))

-- the events of a function

own_events_are : (os es : List ℕ) (k : ℕ) (ts : List FunctionTree) → Inner events_in k ts os es
    → HaveOwnEvents os es k ts
own_events_are os es k [] h = tt
own_events_are os es k (t ∷ ts) h = (h.0, own_events_are os es (suc k) ts h.1)

pub lifted_own_events : LiftedHaveOwnEvents
lifted_own_events captured program known =
    let n = length program in
    let all = (functions_share (arities_of program) captured 0 n program (omega arith) known).events in
    let os = program_event_owners program in
    let es = program_events program in
    let first : n ≡ 0 + n = omega arith in
    own_events_are os es 0 (lifted_program captured program)
    (inner_both events_in 0 n (lifted_tops captured n program)
    (extracted_program captured n program) os es
    (tops_long (arities_of program) captured n program) all.outside
    (subst (λ m. Inner events_in m (extracted_program captured n program) os es) first all.inside))
