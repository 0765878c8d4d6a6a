-- What sources in memory tell after a name was given a text.
use Rattle.std.proofs.Common.{◌≡◌, ◌≢◌, ℕ, List, Bool, true, false, Some, refl, sym, ◌∙◌}
use Rattle.std.specs.Prelude.{String}
use Rattle.std.specs.Option.{option_map}
use Rattle.std.specs.Str.{bytes_eq}
use Rattle.std.specs.Map.{update}
use Rattle.std.specs.BTreeMap.{BTreeMap, get_by_text}
use Rattle.std.specs.Global.{Global}
use Rattle.std.proofs.lemmas.Bool.{false_from_ne_true}
use Rattle.std.proofs.lemmas.Slice.Eq.{bytes_eq-Decides}
use Rattle.outside.specs.MemorySources.{told_of}
use Rattle.outside.proofs.Counts.{same_bytes}

told_some : (sure : Bool) (text : List ℕ) → told_of sure (Some text) ≡ Some text
told_some true text = refl
told_some false text = refl

pub given_text : {X : Type 0} (view : X → List ℕ) (sure : Bool) (m n : BTreeMap (String Global) X) (name text : List ℕ) (x : X) → view x ≡ text → ((cs : List ℕ) → get_by_text n cs ≡ update bytes_eq (get_by_text m) name (Some x) cs)
    → (told_of sure (option_map view (get_by_text n name)) ≡ Some text) × ((other : List ℕ) → other ≢ name → told_of sure (option_map view (get_by_text n other)) ≡ told_of sure (option_map view (get_by_text m other)))
given_text view sure m n name text x is after = (
  (let here : get_by_text n name ≡ Some x = after name ∙ rw (same_bytes name) refl in rw (here, is) (told_some sure text)),
  λ other differs.
      let apart : bytes_eq name other ≡ false = false_from_ne_true (bytes_eq name other) (λ h. differs (sym ((bytes_eq-Decides name other).0 h))) in
      let there : get_by_text n other ≡ get_by_text m other = after other ∙ rw apart refl in
      rw there refl,
)
