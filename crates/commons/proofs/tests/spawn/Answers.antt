use Rattle.std.proofs.Common.{◌≡◌, ◌∙◌, ◌+◌, ◌++◌, ◌∷◌, [], List, ℕ, ap, sym, subst, refl, arith}
use Rattle.std.specs.Prelude.{Some}
use Rattle.hy_words.specs.Words.{tag_of}
use Rattle.commons.specs.declared.view.View.{View}
use Rattle.commons.specs.Changes.{child_at}
use Rattle.commons.specs.Log.{header_at}
use Rattle.commons.specs.Steps.{claimed, put_on, bore}
use Rattle.commons.specs.Views.{HasPrinted, MayAppend}
use Rattle.commons.proofs.Printing.{entry_header_at, printed_step, printed_no_more}
use Rattle.commons.proofs.tests.spawn.Goals as goal

pub returns-clause-texts : goal.returns-clause-texts
returns-clause-texts g c = λ n h.
    let old : View = g.C.Commons.view c.args.c.now c.args.pass.now in
    let v1 : View = g.C.Commons.view c.claim.new.self c.claim.new.pass in
    let v2 : View = g.C.Commons.view c.put_spawn-entry.new.c c.put_spawn-entry.new.pass in
    let v3 : View = g.C.Commons.view c.append.new.self c.append.new.pass in
    let v4 : View = g.C.Commons.view c.birth.new.self c.birth.new.pass in
    let q : ℕ = c.in_ok-place.place + 1 in
    let header = entry_header_at v2.seen v1.block_start c.put_spawn-entry.result 74 c.put_spawn-entry.ensures.word c.put_spawn-entry.ensures.words.0 in
    let claims = c.in_ok-claim.ensures.owns.3.0 in
    let puts = c.put_spawn-entry.ensures.puts.0 in
    let appends = c.in_ok-place.ensures.appended in
    let named : v3.unborn ≡ Some q = ap (λ (v : View). v.unborn) appends.1.0 ∙ ap (λ (h : ℕ). child_at h c.in_ok-place.place) header in
    let bears = c.in_ok-child.ensures.bears q named in
    let born = c.in_ok-child.ensures.born q named in
    let cap : ℕ = g.C.Commons.area_size c.args.c.now in
    let l = g.met.C.Commons.later_later in
    let put = l _ _ _ c.claim.ensures.later c.put_spawn-entry.ensures.later in
    let sizes = (g.met.C.Commons.later_sizes _ _ put).0 in
    let all = (g.met.C.Commons.later_sizes _ _ (l _ _ _ put (l _ _ _ c.append.ensures.later c.birth.ensures.later))).0 in
    let may : MayAppend cap v2 c.put_spawn-entry.result = subst (λ (m : ℕ). MayAppend m v2 c.put_spawn-entry.result) sizes c.put_spawn-entry.ensures.entry in
    let sound = g.met.C.Commons.sound _ _ c.put_spawn-entry.ensures.others.0 in
    let one = printed_step cap n old (claimed old c.in_ok-claim.ensures.owns.0 256) v1 refl refl refl c.in_ok-claim.ensures.owns.3 h in
    let two = printed_step cap n v1 (put_on v1 5) v2 refl refl refl c.put_spawn-entry.ensures.puts one in
    let three = printed_no_more cap n v2 v3 c.put_spawn-entry.result c.in_ok-place.place may appends sound.own_known (λ e. let ten : tag_of (header_at v2.seen c.put_spawn-entry.result) ≡ 10 = ap tag_of header in absurd (omega arith)) two in
    let four = printed_step cap n v3 (bore v3 q) v4 refl refl refl bears three in
    subst (λ (m : ℕ). HasPrinted m v4 n) (sym all) four

pub returns-clause-again : goal.returns-clause-again
returns-clause-again g c =
    let old : View = g.C.Commons.view c.args.c.now c.args.pass.now in
    let v1 : View = g.C.Commons.view c.claim.new.self c.claim.new.pass in
    let v2 : View = g.C.Commons.view c.put_spawn-entry.new.c c.put_spawn-entry.new.pass in
    let v3 : View = g.C.Commons.view c.append.new.self c.append.new.pass in
    let v4 : View = g.C.Commons.view c.birth.new.self c.birth.new.pass in
    let q : ℕ = c.in_ok-place.place + 1 in
    let header = entry_header_at v2.seen v1.block_start c.put_spawn-entry.result 74 c.put_spawn-entry.ensures.word c.put_spawn-entry.ensures.words.0 in
    let claims = c.in_ok-claim.ensures.owns.3.0 in
    let puts = c.put_spawn-entry.ensures.puts.0 in
    let appends = c.in_ok-place.ensures.appended in
    let named : v3.unborn ≡ Some q = ap (λ (v : View). v.unborn) appends.1.0 ∙ ap (λ (h : ℕ). child_at h c.in_ok-place.place) header in
    let bears = c.in_ok-child.ensures.bears q named in
    let born = c.in_ok-child.ensures.born q named in
    let refused = ap (λ (v : View). v.refused) bears.0 ∙ (ap (λ (v : View). v.refused) appends.1.0 ∙ (ap (λ (v : View). v.refused) puts ∙ (ap (λ (v : View). v.refused) claims ∙ c.requires.first))) in
    (refused, ap (λ (v : View). v.unborn) bears.0)

pub returns-clause-pids : goal.returns-clause-pids
returns-clause-pids g c =
    let old : View = g.C.Commons.view c.args.c.now c.args.pass.now in
    let v1 : View = g.C.Commons.view c.claim.new.self c.claim.new.pass in
    let v2 : View = g.C.Commons.view c.put_spawn-entry.new.c c.put_spawn-entry.new.pass in
    let v3 : View = g.C.Commons.view c.append.new.self c.append.new.pass in
    let v4 : View = g.C.Commons.view c.birth.new.self c.birth.new.pass in
    let q : ℕ = c.in_ok-place.place + 1 in
    let header = entry_header_at v2.seen v1.block_start c.put_spawn-entry.result 74 c.put_spawn-entry.ensures.word c.put_spawn-entry.ensures.words.0 in
    let claims = c.in_ok-claim.ensures.owns.3.0 in
    let puts = c.put_spawn-entry.ensures.puts.0 in
    let appends = c.in_ok-place.ensures.appended in
    let named : v3.unborn ≡ Some q = ap (λ (v : View). v.unborn) appends.1.0 ∙ ap (λ (h : ℕ). child_at h c.in_ok-place.place) header in
    let bears = c.in_ok-child.ensures.bears q named in
    let born = c.in_ok-child.ensures.born q named in
    (ap (λ (v : View). v.pid) bears.0 ∙ (ap (λ (v : View). v.pid) appends.1.0 ∙ (ap (λ (v : View). v.pid) puts ∙ ap (λ (v : View). v.pid) claims)), ap (λ (v : View). v.pid) born.0)

pub returns-clause-children : goal.returns-clause-children
returns-clause-children g c =
    let old : View = g.C.Commons.view c.args.c.now c.args.pass.now in
    let v1 : View = g.C.Commons.view c.claim.new.self c.claim.new.pass in
    let v2 : View = g.C.Commons.view c.put_spawn-entry.new.c c.put_spawn-entry.new.pass in
    let v3 : View = g.C.Commons.view c.append.new.self c.append.new.pass in
    let v4 : View = g.C.Commons.view c.birth.new.self c.birth.new.pass in
    let q : ℕ = c.in_ok-place.place + 1 in
    let header = entry_header_at v2.seen v1.block_start c.put_spawn-entry.result 74 c.put_spawn-entry.ensures.word c.put_spawn-entry.ensures.words.0 in
    let claims = c.in_ok-claim.ensures.owns.3.0 in
    let puts = c.put_spawn-entry.ensures.puts.0 in
    let appends = c.in_ok-place.ensures.appended in
    let named : v3.unborn ≡ Some q = ap (λ (v : View). v.unborn) appends.1.0 ∙ ap (λ (h : ℕ). child_at h c.in_ok-place.place) header in
    let bears = c.in_ok-child.ensures.bears q named in
    let born = c.in_ok-child.ensures.born q named in
    let same = ap (λ (v : View). v.born) appends.1.0 ∙ (ap (λ (v : View). v.born) puts ∙ ap (λ (v : View). v.born) claims) in
    (ap (λ (v : View). v.born) bears.0 ∙ ap (λ (xs : List ℕ). xs ++ q ∷ []) same, ap (λ (v : View). v.born) born.0)
