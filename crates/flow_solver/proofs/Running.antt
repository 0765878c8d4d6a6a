-- The loops over the readers of a set, and over the members.
use Rattle.std.proofs.Common.{◌≡◌, ℕ, ◌+◌, ◌<◌, ◌≤◌, List, length, take, get_or, sym, ap, ◌∙◌}
use Rattle.std.proofs.Common.{subst, arith}
use Rattle.std.specs.List.{All as Each, Contains}
use Rattle.std.proofs.lemmas.List.{take-append-le, take_all}
use Rattle.std.proofs.lemmas.List.Elements.{All-more, All-weaker, All-contains, Contains-get_or}
use Rattle.flow_sets.specs.Least.{Flows}
use Rattle.flow_sets.specs.declared.inclusion.FlowSet.{FlowSet}
use Rattle.flow_sets.specs.declared.inclusion.Inclusion.{Inclusion}
use Rattle.indexmap.specs.IndexMap.{IndexMap}
use Rattle.flow_solver.specs.declared.members.Member.{Member}
use Rattle.flow_solver.specs.code.Tables.{State}
use Rattle.flow_solver.specs.code.Carries.{Steady, Grows, Followed, Carried, Reads, AreIndexed}
use Rattle.flow_solver.specs.code.Effects.{FollowsBy, PassesOn}
use Rattle.flow_solver.specs.code.Lists.{listed}
use Rattle.flow_solver.specs.code.Readers.{is_set, source}
use Rattle.flow_solver.proofs.Appending.{appends-at, appends-length}
use Rattle.flow_solver.proofs.Carrying.{grows-then, follows-grows, follows-followed, follows-steady}
use Rattle.flow_solver.proofs.Carrying.{followed-grows, passes_on-grows, passes_on-passed}
use Rattle.flow_solver.proofs.Carrying.{passes_on-steady, carried-grows}

module _ {S : Type 0} (readers : IndexMap FlowSet (List Inclusion) S) (m : Member)
    (rules : List Inclusion) (is : rules ≡ listed is_set readers m.set)
    (indexed : AreIndexed readers) (reached : Flows (Reads readers) m.set m.site) where
  -- a reader of the member's set
  pub record Read (r : Inclusion) : Type 0 where
    pub given : Reads readers r
    pub flows : Flows (Reads readers) (source r) m.site

  pub read : (r : Inclusion) → Contains rules r → Read r
  read r h =
      let c = subst (λ l. Contains l r) is h in
      let s = indexed m.set r c in
      record {
        given = subst (λ X. Contains (listed is_set readers X) r) (sym s) c;
        flows = subst (λ X. Flows (Reads readers) X m.site) (sym s) reached;
      }

  pub carry-more : (u w w' : State) (i : ℕ) (d : Inclusion) → i < length rules
      → FollowsBy (get_or rules i d) m.site w w' → Grows u w → Steady (Reads readers) w
      → Each (λ r. Followed w r m.site) (take i rules)
      → Grows u w' × Steady (Reads readers) w' × Each (λ r. Followed w' r m.site)
      (take (i + 1) rules)
  carry-more u w w' i d h l g steady all =
      let r = get_or rules i d in
      let here = read r (Contains-get_or rules i d h) in
      let more = follows-grows r m.site w w' l in (
        grows-then g more,
        follows-steady (Reads readers) r m.site w w' here.given here.flows l steady,
        All-more (λ q. Followed w' q m.site) rules i d h
            (All-weaker (λ q. Followed w q m.site) (λ q. Followed w' q m.site)
            (λ q f. followed-grows more q m.site f) (take i rules) all)
            (follows-followed r m.site w w' l),
      )

  pub carry-end : (u w w' : State) (i : ℕ) → length rules ≤ i → PassesOn m.set m.site w w'
      → Grows u w → Steady (Reads readers) w → Each (λ r. Followed w r m.site) (take i rules)
      → Grows u w' × Steady (Reads readers) w' × Carried readers w' m
  carry-end u w w' i h l g steady all =
      let more = passes_on-grows m.set m.site w w' l in
      let each : Each (λ r. Followed w r m.site) rules =
      subst (Each (λ r. Followed w r m.site)) (take_all i rules h) all in (
        grows-then g more,
        passes_on-steady (Reads readers) m.set m.site w w' reached l steady,
        record {
          followed =
              λ r c. followed-grows more r m.site
              (All-contains (λ q. Followed w q m.site) rules r each
              (subst (λ l. Contains l r) (sym is) c));
          passed = passes_on-passed m.set m.site w w' l;
        },
      )

module _ {S : Type 0} (readers : IndexMap FlowSet (List Inclusion) S) where
  -- members are carried in order
  pub run-more : (w w' : State) (i : ℕ) (d : Member) → i < length w.members → Grows w w'
      → Carried readers w' (get_or w.members i d) → Each (Carried readers w) (take i w.members)
      → Each (Carried readers w') (take (i + 1) w'.members)
  run-more w w' i d h g c all =
      All-more (Carried readers w') w'.members i d (omega (arith, appends-length g.members))
      (subst (Each (Carried readers w'))
      (sym (ap (take i) g.members.is ∙ take-append-le i w.members g.members.more (omega arith)))
      (All-weaker (Carried readers w) (Carried readers w') (λ m k. carried-grows g k)
      (take i w.members) all))
      (subst (Carried readers w') (sym (appends-at g.members i d h)) c)

  pub run-end : (w : State) (i : ℕ) → length w.members ≤ i
      → Each (Carried readers w) (take i w.members) → Each (Carried readers w) w.members
  run-end w i h all = subst (Each (Carried readers w)) (take_all i w.members h) all
