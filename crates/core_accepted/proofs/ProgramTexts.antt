-- The atoms of a program's modules and their texts.
use Rattle.std.proofs.Common.{◌≡◌, ℕ, zero, suc, if◌then◌else◌, List, [], ◌∷◌, ◌⊎◌, inl, inr, true, true≢false, codes, Option, Some, None, slice_get, unwrap_or, refl, sym, ap, ◌∙◌}
use Rattle.std.specs.List.{Contains}
use Rattle.std.specs.Str.{bytes_eq}
use Rattle.hy_terms.proofs.NamingLemmas.{named-Names, place_in-kept, slice_get-kept, slice_get-place_in}
use Rattle.hy_terms.specs.Naming.{named, place_in, text_of}
use Rattle.hy_core.specs.BuiltIn.{operation_named, operation_of, own_atoms}
use Rattle.hy_core.specs.NameFaults.{modules_of}
use Rattle.hy_core.specs.Tables.{program_atoms, renamed, with_modules, with_texts}
use Rattle.hy_core.specs.declared.tree.Module.{Module}
use Rattle.hy_core.specs.declared.tree.Program.{Program}
use Rattle.core_accepted.proofs.Membership.{InAny, in_any}

-- a text has a number in a table
abbrev Has : List (List ℕ) → List ℕ → Type 0
Has table text = (k : ℕ) × (place_in table text ≡ Some k)

has_named : (table : List (List ℕ)) (text other : List ℕ) → Has table other → Has (named table text).1 other
has_named table text other h =
    let n = named-Names table text in
    (h.0, ap (λ after. place_in after other) n.extends ∙ place_in-kept table n.more other h.0 h.1)

has_texts : (table texts : List (List ℕ)) (other : List ℕ) → Has table other → Has (with_texts table texts) other
has_texts table [] other h = h
has_texts table (text ∷ texts) other h = has_texts (named table text).1 texts other (has_named table text other h)

has_modules : (table : List (List ℕ)) (ms : List Module) (other : List ℕ) → Has table other → Has (with_modules table ms) other
has_modules table [] other h = h
has_modules table (m ∷ ms) other h = has_modules (with_texts table m.atoms) ms other (has_texts table m.atoms other h)

has_own : (table texts : List (List ℕ)) (a : ℕ) (text : List ℕ) → slice_get texts a ≡ Some text → Has (with_texts table texts) text
has_own table [] a text h = absurd cc
has_own table (t ∷ texts) zero text h =
    let same : t ≡ text = cc in
    let n = named-Names table t in
    has_texts (named table t).1 texts text ((named table t).0, ap (place_in (named table t).1) (sym same) ∙ n.found)
has_own table (t ∷ texts) (suc a) text h = has_own (named table t).1 texts a text h

has_its : (table : List (List ℕ)) (ms : List Module) (m : Module) → InAny m ms → (a : ℕ) (text : List ℕ) → slice_get m.atoms a ≡ Some text → Has (with_modules table ms) text
has_its table [] m within a text h = absurd within
has_its table (n ∷ ms) m (inl is) a text h = has_modules (with_texts table n.atoms) ms text (has_own table n.atoms a text (ap (λ k. slice_get k.atoms a) is ∙ h))
has_its table (n ∷ ms) m (inr later) a text h = has_its (with_texts table n.atoms) ms m later a text h

-- what stands in the table stays there

stays_texts : (table texts : List (List ℕ)) (k : ℕ) (text : List ℕ) → slice_get table k ≡ Some text → slice_get (with_texts table texts) k ≡ Some text
stays_texts table [] k text h = h
stays_texts table (t ∷ texts) k text h =
    let n = named-Names table t in
    stays_texts (named table t).1 texts k text (ap (λ after. slice_get after k) n.extends ∙ slice_get-kept table n.more k text h)

stays_modules : (table : List (List ℕ)) (ms : List Module) (k : ℕ) (text : List ℕ) → slice_get table k ≡ Some text → slice_get (with_modules table ms) k ≡ Some text
stays_modules table [] k text h = h
stays_modules table (m ∷ ms) k text h = stays_modules (with_texts table m.atoms) ms k text (stays_texts table m.atoms k text h)

module _ (program : Program) (m : Module) (within : Contains (modules_of program) m) where
  abbrev table : List (List ℕ)
  table = program_atoms program

  abbrev text : ℕ → List ℕ
  text = text_of m.atoms

  abbrev new_text : ℕ → List ℕ
  new_text a = text_of table (renamed table m a)

  text_at : (t : List ℕ) (k : ℕ) → place_in table t ≡ Some k → text_of table (unwrap_or (place_in table t) 0) ≡ t
  text_at t k h = ap (λ o. text_of table (unwrap_or o 0)) h ∙ ap (λ o. unwrap_or o []) (slice_get-place_in table t k h)

  -- the number of the program has the text that the number of the module has; one that isn't in the module's table is
  -- 'true' where no atom has the empty text
  pub same_text : (a : ℕ) → (new_text a ≡ text a) ⊎ ((text a ≡ []) × (new_text a ≡ codes "true"))
  same_text a = by (slice_get m.atoms a) refl (place_in table []) refl
    where
      by : (o : Option (List ℕ)) → slice_get m.atoms a ≡ o → (p : Option ℕ) → place_in table [] ≡ p → (new_text a ≡ text a) ⊎ ((text a ≡ []) × (new_text a ≡ codes "true"))
      by (Some t) is p no_text =
          let own : text a ≡ t = ap (λ o. unwrap_or o []) is in
          let has = has_its own_atoms (modules_of program) m (in_any (modules_of program) m within) a t is in
          inl (ap (λ t. text_of table (unwrap_or (place_in table t) 0)) own ∙ text_at t has.0 has.1 ∙ sym own)
      by None is (Some k) empty =
          let own : text a ≡ [] = ap (λ o. unwrap_or o []) is in
          inl (ap (λ t. text_of table (unwrap_or (place_in table t) 0)) own ∙ text_at [] k empty ∙ sym own)
      by None is None empty =
          let own : text a ≡ [] = ap (λ o. unwrap_or o []) is in
          inr (
            own,
            ap (λ t. text_of table (unwrap_or (place_in table t) 0)) own ∙ ap (λ o. text_of table (unwrap_or o 0)) empty
                ∙ ap (λ o. unwrap_or o []) (stays_modules own_atoms (modules_of program) 0 (codes "true") refl),
          )

  pub kept_text : (a x : ℕ) (xs : List ℕ) → bytes_eq (text a) (x ∷ xs) ≡ true → bytes_eq (new_text a) (x ∷ xs) ≡ true
  kept_text a x xs h = by (same_text a)
    where
      by : (new_text a ≡ text a) ⊎ ((text a ≡ []) × (new_text a ≡ codes "true")) → bytes_eq (new_text a) (x ∷ xs) ≡ true
      by (inl same) = ap (λ t. bytes_eq t (x ∷ xs)) same ∙ h
      by (inr no_text) = absurd (true≢false (sym h ∙ ap (λ t. bytes_eq t (x ∷ xs)) no_text.0))

  same_module : (a : ℕ) → bytes_eq (new_text a) (codes "erlang") ≡ bytes_eq (text a) (codes "erlang")
  same_module a = by (same_text a)
    where
      by : (new_text a ≡ text a) ⊎ ((text a ≡ []) × (new_text a ≡ codes "true")) → bytes_eq (new_text a) (codes "erlang") ≡ bytes_eq (text a) (codes "erlang")
      by (inl same) = ap (λ t. bytes_eq t (codes "erlang")) same
      by (inr no_text) = ap (λ t. bytes_eq t (codes "erlang")) no_text.1 ∙ ap (λ t. bytes_eq t (codes "erlang")) (sym no_text.0)

  same_name : (b n : ℕ) → operation_of (new_text b) n ≡ operation_of (text b) n
  same_name b n = by (same_text b)
    where
      neither : operation_of (codes "true") n ≡ operation_of [] n
      neither = refl

      by : (new_text b ≡ text b) ⊎ ((text b ≡ []) × (new_text b ≡ codes "true")) → operation_of (new_text b) n ≡ operation_of (text b) n
      by (inl same) = ap (λ t. operation_of t n) same
      by (inr no_text) = ap (λ t. operation_of t n) no_text.1 ∙ neither ∙ ap (λ t. operation_of t n) (sym no_text.0)

  pub same_operation : (a b n : ℕ) → operation_named (new_text a) (new_text b) n ≡ operation_named (text a) (text b) n
  same_operation a b n = λ i. if same_module a i then same_name b n i else None
