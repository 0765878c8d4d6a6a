-- One entry tells one event, and what a word stands for stays where a pass knows more.
use Rattle.std.proofs.Common.{◌≡◌, ℕ, ◌+◌, List, [], ◌∷◌, length, max, refl, sym, ap, ◌∙◌, arith, Bool, le-ltb, lt-ltb, lt_of_not-le}
use Rattle.std.specs.Prelude.{slice_index, if◌then◌else◌}
use native.Mathlib.Decide.{dec_le}
use mathlib.Core.Logic.{dite}
use Rattle.hy_terms.specs.declared.term.Colour.TheVariants.{Shared}
use Rattle.hy_terms.specs.Labelled.{Labelled}
use Rattle.hy_words.specs.declared.kind.Entry.TheVariants.{Send, Spawn, Print}
use Rattle.hy_words.specs.Lists.{Grown}
use Rattle.hy_words.specs.Words.{word_of, pid_word_of, entry_header_of}
use Rattle.hy_words.specs.Stands.{Stands, PartsStand, more_parts}
use Rattle.hy_words.proofs.Standing.{one_term, stands_grows}
use Rattle.hy_words.proofs.Naming.{names_grow, names_widen}
use Rattle.commons.specs.declared.view.View.{View}
use Rattle.commons.specs.Log.{LogEvent, LoggedSend, LoggedSpawn, LoggedPrint, Tells}
use Rattle.commons.specs.Steps.{longer}
use Rattle.commons.specs.Views.{KnowsCell, KnowsMore, StandsFor}
use Rattle.commons.proofs.Cells.{grown_same}
use Rattle.commons.proofs.Later.{fits_later, knows_on}

apart_parts : (area : List ℕ) (place : ℕ) (x : Labelled) (xs : List Labelled) → PartsStand [] area Shared place (x ∷ xs) → Stands [] area x (slice_index area place) × PartsStand [] area Shared (place + 1) xs
apart_parts area place x xs (more_parts c k t rest may st more) = (st, more)

-- words in a row stand for one list of terms
one_row : (area : List ℕ) (place : ℕ) (ts us : List Labelled) → PartsStand [] area Shared place ts → PartsStand [] area Shared place us → length ts ≡ length us → ts ≡ us
one_row area place [] [] f g e = refl
one_row area place [] (u ∷ us) f g e = absurd (omega arith)
one_row area place (t ∷ ts) [] f g e = absurd (omega arith)
one_row area place (t ∷ ts) (u ∷ us) f g e =
    let x = apart_parts area place t ts f in
    let y = apart_parts area place u us g in
    ap (λ (z : Labelled). z ∷ ts) (one_term [] area t u (slice_index area place) x.0 y.0) ∙ ap (λ (zs : List Labelled). u ∷ zs) (one_row area (place + 1) ts us x.1 y.1 (omega arith))

one_pid : (p q w : ℕ) → w ≡ pid_word_of p → w ≡ pid_word_of q → p ≡ q
one_pid p q w e f = omega arith

one_number : (p q w : ℕ) → w ≡ word_of 1 p → w ≡ word_of 1 q → p ≡ q
one_number p q w e f = omega arith

-- one entry tells one event
pub tells_once : (area : List ℕ) (cell : ℕ) (e f : LogEvent) → Tells area cell e → Tells area cell f → e ≡ f
tells_once area cell (LoggedSend a t m) (LoggedSend b u n) x y =
    let actor = one_pid a b (slice_index area (cell + 1)) x.0.1 y.0.1 in
    let target = one_pid t u (slice_index area (cell + 2)) x.0.2 y.0.2 in
    let message = one_term [] area m n (slice_index area (cell + 3)) x.1 y.1 in
    ap (λ (z : ℕ). LoggedSend z t m) actor ∙ (ap (λ (z : ℕ). LoggedSend b z m) target ∙ ap (λ (z : Labelled). LoggedSend b u z) message)
tells_once area cell (LoggedSpawn a t ts) (LoggedSpawn b u us) x y =
    let actor = one_pid a b (slice_index area (cell + 1)) x.0.1 y.0.1 in
    let function = one_number t u (slice_index area (cell + 2)) x.0.2 y.0.2 in
    let n : ℕ = length ts in
    let m : ℕ = length us in
    let headers : entry_header_of Spawn (2 + n) ≡ entry_header_of Spawn (2 + m) = sym x.0.0 ∙ y.0.0 in
    let long : n ≡ m = omega arith in
    let row = one_row area (cell + 3) ts us x.2 y.2 long in
    ap (λ (z : ℕ). LoggedSpawn z t ts) actor ∙ (ap (λ (z : ℕ). LoggedSpawn b z ts) function ∙ ap (λ (zs : List Labelled). LoggedSpawn b u zs) row)
tells_once area cell (LoggedPrint a t) (LoggedPrint b u) x y =
    let actor = one_pid a b (slice_index area (cell + 1)) x.0.1 y.0.1 in
    let text = one_number t u (slice_index area (cell + 2)) x.0.2 y.0.2 in
    ap (λ (z : ℕ). LoggedPrint z t) actor ∙ ap (λ (z : ℕ). LoggedPrint b z) text
tells_once area cell (LoggedSend a t m) (LoggedSpawn b u us) x y = let z : entry_header_of Send 3 ≡ entry_header_of Spawn (2 + length us) = sym x.0.0 ∙ y.0.0 in absurd (omega arith)
tells_once area cell (LoggedSend a t m) (LoggedPrint b u) x y = let z : entry_header_of Send 3 ≡ entry_header_of Print 2 = sym x.0.0 ∙ y.0.0 in absurd (omega arith)
tells_once area cell (LoggedSpawn a t ts) (LoggedSend b u n) x y = let z : entry_header_of Spawn (2 + length ts) ≡ entry_header_of Send 3 = sym x.0.0 ∙ y.0.0 in absurd (omega arith)
tells_once area cell (LoggedSpawn a t ts) (LoggedPrint b u) x y = let z : entry_header_of Spawn (2 + length ts) ≡ entry_header_of Print 2 = sym x.0.0 ∙ y.0.0 in absurd (omega arith)
tells_once area cell (LoggedPrint a t) (LoggedSend b u n) x y = let z : entry_header_of Print 2 ≡ entry_header_of Send 3 = sym x.0.0 ∙ y.0.0 in absurd (omega arith)
tells_once area cell (LoggedPrint a t) (LoggedSpawn b u us) x y = let z : entry_header_of Print 2 ≡ entry_header_of Spawn (2 + length us) = sym x.0.0 ∙ y.0.0 in absurd (omega arith)

pub stands_later : (capacity : ℕ) (heap more : List ℕ) (v w : View) (word : ℕ) → KnowsMore v w → Grown heap more → StandsFor capacity heap v word → StandsFor capacity more w word
stands_later capacity heap more v w word m g s area fit =
    let x = s area (fits_later capacity v w area m fit) in
    (x.0, stands_grows heap area more area x.0 word g (grown_same area) x.1, names_grow heap more (KnowsCell w) x.0 word g (names_widen heap (KnowsCell v) (KnowsCell w) x.0 word (knows_on capacity v w m.0 m.1) x.2))

pub longer_is_max : (xs ys : List ℕ) → length (longer xs ys) ≡ max (length xs) (length ys)
longer_is_max xs ys = dite (dec_le (length ys) (length xs))
    (λ le. ap (λ (b : Bool). length (if b then ys else xs)) (le-ltb (length xs) (length ys) le) ∙ (let z : length xs ≡ max (length xs) (length ys) = omega arith in z))
    (λ no. let m = lt_of_not-le no in ap (λ (b : Bool). length (if b then ys else xs)) (lt-ltb (length xs) (length ys) m) ∙ (let z : length ys ≡ max (length xs) (length ys) = omega arith in z))
