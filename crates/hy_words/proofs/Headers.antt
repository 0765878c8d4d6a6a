-- Which words are headers: by their tags, and by what makes them.
use Rattle.std.proofs.Common.{◌≡◌, ◌⊎◌, inl, inr, ⊎_elim, ℕ, ◌^◌, ◌<◌, ◌≤◌, subst, sym, arith}
use native.Mathlib.Decide.{ℕ_discrete}
use mathlib.Core.Logic.{dite}
use Rattle.hy_words.specs.declared.kind.Entry.{Entry}
use Rattle.hy_words.specs.declared.kind.Entry.TheVariants.{Send, Spawn, Print}
use Rattle.hy_words.specs.Words.{tag_of, payload_of, size_of, site_of, tuple_tag, cons_tag, tag_of_entry, tuple_header_of, cons_header_of, entry_header_of, IsHeader, IsTermHeader, IsEntryHeader}
use Rattle.hy_words.specs.Laws.{MadeAsTuple, MadeAsCons, MadeAsEntry}

pub term_header : (w : ℕ) → IsTermHeader w → (tag_of w ≡ tuple_tag) ⊎ (tag_of w ≡ cons_tag)
term_header w h = dite (ℕ_discrete (tag_of w) 7) (λ e. inl e) (λ o. inr (omega (arith, h)))

header_of_term : (w : ℕ) → (tag_of w ≡ tuple_tag) ⊎ (tag_of w ≡ cons_tag) → IsTermHeader w
header_of_term w h = ⊎_elim (λ (e : tag_of w ≡ tuple_tag). (omega arith, omega arith)) (λ (e : tag_of w ≡ cons_tag). (omega arith, omega arith)) h

pub entry_header_kind : (w : ℕ) → IsEntryHeader w → (kind : Entry) × (tag_of w ≡ tag_of_entry kind)
entry_header_kind w h =
    dite (ℕ_discrete (tag_of w) 9) (λ e. (Send, e))
    (λ n. dite (ℕ_discrete (tag_of w) 10) (λ e. (Spawn, e)) (λ o. (Print, omega (arith, h))))

entry_tags : (kind : Entry) → (9 ≤ tag_of_entry kind) × (tag_of_entry kind ≤ 11)
entry_tags Send = (omega arith, omega arith)
entry_tags Spawn = (omega arith, omega arith)
entry_tags Print = (omega arith, omega arith)

header_of_entry : (w : ℕ) → (kind : Entry) × (tag_of w ≡ tag_of_entry kind) → IsEntryHeader w
header_of_entry w h = let e = entry_tags h.0 in let f : tag_of w ≡ tag_of_entry h.0 = h.1 in (omega arith, omega arith)

pub term_headers : (w : ℕ) → (IsTermHeader w → (tag_of w ≡ tuple_tag) ⊎ (tag_of w ≡ cons_tag)) × ((tag_of w ≡ tuple_tag) ⊎ (tag_of w ≡ cons_tag) → IsTermHeader w)
term_headers w = (term_header w, header_of_term w)

pub entry_headers : (w : ℕ) → (IsEntryHeader w → (kind : Entry) × (tag_of w ≡ tag_of_entry kind)) × ((kind : Entry) × (tag_of w ≡ tag_of_entry kind) → IsEntryHeader w)
entry_headers w = (entry_header_kind w, header_of_entry w)

header_made : (w : ℕ) → IsHeader w → MadeAsTuple w ⊎ (MadeAsCons w ⊎ MadeAsEntry w)
header_made w h =
    let low = h.0 in
    let high = h.1 in
    dite (ℕ_discrete (tag_of w) 7)
    (λ e. let size = h.2 (omega arith, omega arith) in let site = h.3 (omega arith, omega arith) in inl (size_of w, site_of w, size, site, omega arith))
    (λ n. dite (ℕ_discrete (tag_of w) 8)
    (λ e. let site = h.3 (omega arith, omega arith) in let none = h.4 e in inr (inl (site_of w, site, omega arith)))
    (λ o. let entry : IsEntryHeader w = (omega arith, omega arith) in
    let k = entry_header_kind w entry in
    let tag : tag_of w ≡ tag_of_entry k.0 = k.1 in inr (inr (k.0, payload_of w, h.5 entry, omega arith))))

tuple_is_header : (size site : ℕ) → size < 2 ^ 28 → site < 2 ^ 28 → IsHeader (tuple_header_of size site)
tuple_is_header size site h k = (omega arith, omega arith, λ e. omega arith, λ e. omega arith, λ e. absurd (omega arith), λ e. omega arith)

cons_is_header : (site : ℕ) → site < 2 ^ 28 → IsHeader (cons_header_of site)
cons_is_header site k = (omega arith, omega arith, λ e. omega arith, λ e. omega arith, λ e. omega arith, λ e. omega arith)

entry_is_header : (kind : Entry) (n : ℕ) → n < 2 ^ 28 → IsHeader (entry_header_of kind n)
entry_is_header Send n h = (omega arith, omega arith, λ e. absurd (omega arith), λ e. absurd (omega arith), λ e. absurd (omega arith), λ e. omega arith)
entry_is_header Spawn n h = (omega arith, omega arith, λ e. absurd (omega arith), λ e. absurd (omega arith), λ e. absurd (omega arith), λ e. omega arith)
entry_is_header Print n h = (omega arith, omega arith, λ e. absurd (omega arith), λ e. absurd (omega arith), λ e. absurd (omega arith), λ e. omega arith)

made_header : (w : ℕ) → MadeAsTuple w ⊎ (MadeAsCons w ⊎ MadeAsEntry w) → IsHeader w
made_header w h =
    ⊎_elim (λ (t : MadeAsTuple w). subst IsHeader (sym t.4) (tuple_is_header t.0 t.1 t.2 t.3))
    (λ (r : MadeAsCons w ⊎ MadeAsEntry w). ⊎_elim (λ (c : MadeAsCons w). subst IsHeader (sym c.2) (cons_is_header c.0 c.1))
    (λ (e : MadeAsEntry w). subst IsHeader (sym e.3) (entry_is_header e.0 e.1 e.2)) r) h

-- the headers are those of tuples, of conses and of entries
pub headers_made : (w : ℕ) → (IsHeader w → MadeAsTuple w ⊎ (MadeAsCons w ⊎ MadeAsEntry w)) × (MadeAsTuple w ⊎ (MadeAsCons w ⊎ MadeAsEntry w) → IsHeader w)
headers_made w = (header_made w, made_header w)
