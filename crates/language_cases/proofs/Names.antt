use Rattle.std.proofs.Common.{◌≡◌, ℕ, ◌+◌, List, [], ◌∷◌, ◌++◌, arith, drop}
use Rattle.std.specs.List.{flat_map, slice_get}
use Rattle.std.specs.Prelude.{Some}
use Rattle.std.proofs.lemmas.List.{drop_more}
use Rattle.std.proofs.lemmas.Grind.{common_steps}
use Rattle.std.proofs.lemmas.Option.{get_or_from_slice_get, slice_get_within}
use Rattle.hy_terms.specs.Texts.{atom_text}
use Rattle.language_cases.specs.Pieces.{name}

-- the names from a place on begin with that of the text that stands there
names_from : (table : List (List ℕ)) (i : ℕ) (text : List ℕ) → slice_get table i ≡ Some text →
    flat_map name (drop i table) ≡ name text ++ flat_map name (drop (i + 1) table)
names_from table i text there =
    rw (
      drop_more table i text (slice_get_within table i text there),
      get_or_from_slice_get table i text text there,
    )

-- a name more, and one place less
pub names_step : (before after : List ℕ) (table : List (List ℕ)) (i : ℕ) (text : List ℕ) →
    slice_get table i ≡ Some text →
    before ++ flat_map name (drop i table) ≡ flat_map name table →
    after ≡ (before ++ 32 ∷ []) ++ atom_text text →
    after ++ flat_map name (drop (i + 1) table) ≡ flat_map name table
names_step before after table i text there is now =
    let first = names_from table i text there
    in grind (arith, common_steps)
