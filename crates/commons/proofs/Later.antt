-- A pass that knows more: what it knew, it knows; what it might put, it may put; and fewer areas fit it.
use Rattle.std.proofs.Common.{◌≡◌, ◌≢◌, ◌⊎◌, ℕ, List, [], ◌++◌, length, sym, ap, ◌∙◌, inl, inr, ⊎_elim, arith, length-append, append-nil, append_assoc}
use Rattle.std.specs.Prelude.{slice_index}
use Rattle.std.proofs.lemmas.List.{get_or_append_left}
use Rattle.hy_words.specs.Lists.{Grown, Has, StartsWith}
use Rattle.hy_words.specs.Words.{area_word_of, IsHeader, IsScalar}
use Rattle.commons.specs.declared.view.View.{View}
use Rattle.commons.specs.Area.{IsWhole}
use Rattle.commons.specs.Views.{KnowsCell, Fits, KnowsPlace, KnowsMore, KnowsTerm, MayPut, MayShare}
use Rattle.commons.specs.Changes.{Claims, IsSameButSeen, PutsWords}
use Rattle.commons.proofs.Cells.{whole_grows, grown_on, inside_of}
use Rattle.commons.proofs.Grows.{log_begins}

module _ (capacity : ℕ) (v w : View) (more : StartsWith w.known v.known) (grown : Grown v.seen w.seen) where
  known_on : (x : ℕ) → Has v.known x → Has w.known x
  known_on x h =
      let i = h.1 in
      let e : w.known ≡ v.known ++ more.0 = more.1 in
      let long = ap length e in
      (h.0, omega (arith, length-append v.known more.0), ap (λ (xs : List ℕ). slice_index xs h.0) e ∙ (get_or_append_left v.known more.0 0 h.0 h.1 ∙ h.2))

  seen_on : (cell : ℕ) → Has v.seen (area_word_of cell) → Has w.seen (area_word_of cell)
  seen_on cell h =
      let some : slice_index v.seen h.0 ≢ 0 = λ z. let e : area_word_of cell ≡ 0 = sym h.2 ∙ z in omega arith in
      let same = grown h.0 some in
      (h.0, inside_of w.seen h.0 (λ z. some (sym same ∙ z)), same ∙ h.2)

  pub knows_on : (cell : ℕ) → KnowsCell v cell → KnowsCell w cell
  knows_on cell h = ⊎_elim (λ (x : IsWhole v.seen cell). inl (whole_grows v.seen w.seen cell grown x))
      (λ (t : Has v.known (area_word_of cell) ⊎ Has v.seen (area_word_of cell)). inr (⊎_elim (λ (x : Has v.known (area_word_of cell)). inl (known_on (area_word_of cell) x)) (λ (x : Has v.seen (area_word_of cell)). inr (seen_on cell x)) t)) h

  pub fits_before : (area : List ℕ) → Fits capacity w area → Fits capacity v area
  fits_before area f = record { sized = f.sized; closed = f.closed; agrees = grown_on v.seen w.seen area grown f.agrees; whole = λ cell h. f.whole cell (knows_on cell h); log = log_begins (length w.known) w.known area v.known f.log more }

  pub knows_place_on : (place : ℕ) → KnowsPlace capacity v place → KnowsPlace capacity w place
  knows_place_on place h = (h.0, knows_on h.0 h.1, λ area f. h.2 area (fits_before area f))

  pub may_share_on : (word : ℕ) → MayShare capacity v word → MayShare capacity w word
  may_share_on word h = ⊎_elim (λ (x : IsScalar word). inl x)
      (λ (x : (cell : ℕ) × (word ≡ area_word_of cell) × KnowsTerm capacity v cell). inr (x.0, x.1, (knows_on x.0 x.2.0, λ area f. x.2.1 area (fits_before area f)))) h

  pub may_put_on : (word : ℕ) → MayPut capacity v word → MayPut capacity w word
  may_put_on word h = ⊎_elim (λ (x : IsHeader word). inl x) (λ (x : MayShare capacity v word). inr (may_share_on word x)) h

pub starts_same : (xs ys : List ℕ) → ys ≡ xs → StartsWith ys xs
starts_same xs ys e = ([], e ∙ sym (append-nil xs))

starts_on : (a b c : List ℕ) → StartsWith b a → StartsWith c b → StartsWith c a
starts_on a b c f g = (f.0 ++ g.0, g.1 ∙ (ap (λ (x : List ℕ). x ++ g.0) f.1 ∙ append_assoc a f.0 g.0))

pub more_on : (a b c : View) → KnowsMore a b → KnowsMore b c → KnowsMore a c
more_on a b c f g = (starts_on a.known b.known c.known f.0 g.0, grown_on a.seen b.seen c.seen f.1 g.1)

-- words were put
pub puts_more : (a b : View) (n : ℕ) → PutsWords a n b → KnowsMore a b
puts_more a b n p = (starts_same a.known b.known (ap (λ (v : View). v.known) p.0), p.1)

pub same_more : (v w : View) → IsSameButSeen v w → KnowsMore v w
same_more v w p = (starts_same v.known w.known (ap (λ (u : View). u.known) p.0), p.1)

pub claims_more : (a b : View) (old n : ℕ) → Claims a old n b → KnowsMore a b
claims_more a b old n p = (starts_same a.known b.known (ap (λ (v : View). v.known) p.0), p.1)

pub may_share_later : (capacity : ℕ) (v w : View) (word : ℕ) → KnowsMore v w → MayShare capacity v word → MayShare capacity w word
may_share_later capacity v w word m h = may_share_on capacity v w m.0 m.1 word h

pub may_put_later : (capacity : ℕ) (v w : View) (word : ℕ) → KnowsMore v w → MayPut capacity v word → MayPut capacity w word
may_put_later capacity v w word m h = may_put_on capacity v w m.0 m.1 word h

pub fits_later : (capacity : ℕ) (v w : View) (area : List ℕ) → KnowsMore v w → Fits capacity w area → Fits capacity v area
fits_later capacity v w area m f = fits_before capacity v w m.0 m.1 area f
