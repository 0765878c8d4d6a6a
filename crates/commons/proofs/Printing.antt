-- How many texts a pass has printed, after each call.
use Rattle.std.proofs.Common.{◌≡◌, ◌≢◌, Bool, ne_eqb, ℕ, ◌+◌, ◌<◌, List, [], ◌∷◌, ◌++◌, length, length-append, refl, sym, ap, ◌∙◌, subst, arith, append_assoc}
use Rattle.std.specs.Prelude.{slice_index, if◌then◌else◌, ◌==◌}
use Rattle.hy_words.specs.Lists.{Grown, Has}
use Rattle.hy_words.specs.Words.{tag_of, payload_of, area_word_of}
use Rattle.commons.specs.declared.view.View.{View}
use Rattle.commons.specs.Log.{header_at, prints_at}
use Rattle.commons.specs.Steps.{first_view}
use Rattle.commons.specs.Views.{HasPrinted, KnowsMore, MayAppend}
use Rattle.commons.specs.Changes.{Appends, IsSameButSeen}
use Rattle.commons.proofs.Begins.{last_of}
use Rattle.commons.proofs.Cells.{header_grows}
use Rattle.commons.proofs.Grows.{area_word_place}
use Rattle.commons.proofs.Later.{fits_later, starts_same}
use Rattle.commons.proofs.Owns.{prints_more, prints_last}

pub printed_none : (capacity area_size : ℕ) → HasPrinted capacity (first_view area_size) 0
printed_none capacity area_size area fit = refl

-- a pass that knows more and has the same entries has printed as many
pub printed_later : (capacity n : ℕ) (v w : View) → KnowsMore v w → w.known ≡ v.known → w.own ≡ v.own → HasPrinted capacity v n → HasPrinted capacity w n
printed_later capacity n v w more known own h area fit = h area (fits_later capacity v w area more fit) ∙ ap (λ (t : List ℕ × List ℕ). prints_at area t.0 t.1) (λ i. (sym known i, sym own i))

pub printed_still : (capacity n : ℕ) (v w : View) → IsSameButSeen v w → HasPrinted capacity v n → HasPrinted capacity w n
printed_still capacity n v w same = printed_later capacity n v w (starts_same v.known w.known (ap (λ (u : View). u.known) same.0), same.1) (ap (λ (u : View). u.known) same.0) (ap (λ (u : View). u.own) same.0)

-- an append of a print adds one, and of another entry none
pub printed_on : (capacity n : ℕ) (v w : View) (entry place : ℕ) → MayAppend capacity v entry → Appends v entry place w → ((p : ℕ) → Has v.own p → p < length v.known) → HasPrinted capacity v n → HasPrinted capacity w (n + (if tag_of (header_at v.seen entry) == 11 then 1 else 0))
printed_on capacity n v w entry place may made low h area fit =
    let before : List ℕ = v.known ++ made.0 in
    let known : w.known ≡ before ++ entry ∷ [] = ap (λ (u : View). u.known) made.1.0 in
    let own : w.own ≡ v.own ++ place ∷ [] = ap (λ (u : View). u.own) made.1.0 in
    let begins : w.known ≡ v.known ++ (made.0 ++ entry ∷ []) = known ∙ append_assoc v.known made.0 (entry ∷ []) in
    let old = fits_later capacity v w area ((made.0 ++ entry ∷ [], begins), made.1.1) fit in
    let long = ap length known in
    let count = made.2 in
    let at : length before ≡ place = omega (arith, length-append before (entry ∷ [])) in
    let last : slice_index w.known place ≡ entry = ap (λ (t : List ℕ × ℕ). slice_index t.0 t.1) (λ i. (known i, sym at i)) ∙ last_of before entry in
    let same : header_at area entry ≡ header_at v.seen entry = header_grows v.seen area entry old.agrees may.whole in
    let kind : tag_of (header_at area (slice_index w.known place)) ≡ tag_of (header_at v.seen entry) = ap (λ (x : ℕ). tag_of (header_at area x)) last ∙ ap tag_of same in
    let more : prints_at area w.known v.own ≡ prints_at area v.known v.own = prints_more area w.known v.known v.own (made.0 ++ entry ∷ [], begins) low in
    let added = ap (λ (ps : List ℕ). prints_at area w.known ps) own ∙ prints_last area w.known v.own place in
    let bit : ℕ = (if tag_of (header_at v.seen entry) == 11 then 1 else 0) in
    sym (added ∙ (ap (λ (t : ℕ). prints_at area w.known v.own + (if t == 11 then 1 else 0)) kind ∙ ap (λ (m : ℕ). m + bit) (more ∙ sym (h area old))))

-- a step that leaves the known words, the own entries and what was read keeps the count
pub printed_step : (capacity n : ℕ) (v u w : View) → u.known ≡ v.known → u.own ≡ v.own → u.seen ≡ v.seen → IsSameButSeen u w → HasPrinted capacity v n → HasPrinted capacity w n
printed_step capacity n v u w known own seen same h =
    let known' : w.known ≡ v.known = ap (λ (x : View). x.known) same.0 ∙ known in
    printed_later capacity n v w (starts_same v.known w.known known', subst (λ (s : List ℕ). Grown s w.seen) seen same.1) known' (ap (λ (x : View). x.own) same.0 ∙ own) h

-- the header of an entry that was put
pub entry_header_at : (seen : List ℕ) (place entry header : ℕ) → entry ≡ area_word_of place → slice_index seen place ≡ header → header_at seen entry ≡ header
entry_header_at seen place entry header at is = ap (slice_index seen) (ap payload_of at ∙ area_word_place place) ∙ is

-- an append of an entry that is no print
pub printed_no_more : (capacity n : ℕ) (v w : View) (entry place : ℕ) → MayAppend capacity v entry → Appends v entry place w → ((p : ℕ) → Has v.own p → p < length v.known) → tag_of (header_at v.seen entry) ≢ 11 → HasPrinted capacity v n → HasPrinted capacity w n
printed_no_more capacity n v w entry place may made low other h =
    let none : n + (if tag_of (header_at v.seen entry) == 11 then 1 else 0) ≡ n = ap (λ (b : Bool). n + (if b then 1 else 0)) (ne_eqb (tag_of (header_at v.seen entry)) 11 other) ∙ (let z : n + 0 ≡ n = omega arith in z) in
    subst (λ (m : ℕ). HasPrinted capacity w m) none (printed_on capacity n v w entry place may made low h)
