-- The texts of names in a module's tables.
use Rattle.std.proofs.Common.{◌≡◌, ℕ, List, [], Some, ap, slice_get, unwrap_or}
use Rattle.hy_terms.specs.Naming.{text_of}
use Rattle.hy_terms.proofs.NamingLemmas.{named-Names, slice_get-named}
use Rattle.hy_core.specs.Numbering.{atom_number, with_atom, variable_number, with_variable}
use Rattle.hy_core.specs.declared.tables.Tables.{Tables}
use Rattle.hy_core.specs.declared.tree.Module.{Module}

-- each text of the tables has its number in the module's too
pub record Keeps (s : Tables) (z : Module) : Type 0 where
  pub atoms : (k : ℕ) (text : List ℕ) → slice_get s.atoms k ≡ Some text → slice_get z.atoms k ≡ Some text
  pub variables : (k : ℕ) (text : List ℕ) → slice_get s.variables k ≡ Some text → slice_get z.variables k ≡ Some text

module _ {z : Module} (s : Tables) (text : List ℕ) where
  pub before_atom : Keeps (with_atom s text) z → Keeps s z
  before_atom keeps = record { atoms = λ k x h. keeps.atoms k x (slice_get-named s.atoms text k x h); variables = keeps.variables }

  pub before_variable : Keeps (with_variable s text) z → Keeps s z
  before_variable keeps = record { atoms = keeps.atoms; variables = λ k x h. keeps.variables k x (slice_get-named s.variables text k x h) }

  pub atom_kept : Keeps (with_atom s text) z → text_of z.atoms (atom_number s text) ≡ text
  atom_kept keeps = ap (λ o. unwrap_or o []) (keeps.atoms (atom_number s text) text (named-Names s.atoms text).stands)

  pub variable_kept : Keeps (with_variable s text) z → text_of z.variables (variable_number s text) ≡ text
  variable_kept keeps = ap (λ o. unwrap_or o []) (keeps.variables (variable_number s text) text (named-Names s.variables text).stands)
