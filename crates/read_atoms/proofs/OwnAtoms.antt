-- Modules that are read have their atoms in their own tables, and keep their texts.
use Rattle.std.proofs.Common.{◌≡◌, ℕ, zero, suc, ◌<◌, List, [], ◌∷◌, ◌++◌, length, subst, arith}
use Rattle.std.specs.List.{AllByRecursion, AllZip, Contains, slice_index_or}
use Rattle.hy_core.specs.NameFaults.{modules_of}
use Rattle.hy_core.specs.PreludeModules.{prelude_modules, the_module_erlang, the_module_lists}
use Rattle.hy_core.specs.PreludeModules.{with_prelude}
use Rattle.hy_core.specs.Reading.{IsModuleText}
use Rattle.hy_core.specs.declared.tree.Module.{Module}
use Rattle.core_lint.specs.Linted.{IsOfText, KeepsText}
use Rattle.core_lint.specs.ModuleAtoms.{HasOwnAtoms, module_atoms}
use Rattle.read_atoms.specs.AtomLaws.{HasText, LintedKeepTexts, ReadHaveOwnAtoms}
use Rattle.read_atoms.proofs.Below.{Below}
use Rattle.read_atoms.proofs.GrammarAtoms.{module_reads}
use Rattle.read_atoms.proofs.PreludeAtoms.{erlang_own, lists_own}

own : (n : ℕ) (xs : List ℕ) → Below n xs → (a : ℕ) → Contains xs a → a < n
own n xs h a c = at xs h c.0 c.1 c.2
  where
    at : (ys : List ℕ) → Below n ys → (k : ℕ) → k < length ys → slice_index_or ys k a ≡ a → a < n
    at [] h k below is = absurd (omega (arith, below))
    at (y ∷ ys) h zero below is = let low = h.0 in subst (λ x. x < n) is low
    at (y ∷ ys) h (suc k) below is = at ys h.1 k (omega (arith, below)) is

pub read_own : ReadHaveOwnAtoms
read_own text z h = own (length z.atoms) (module_atoms z) (module_reads h.1.2.3)

abbrev AllOwn : List Module → Type 0
AllOwn = AllByRecursion HasOwnAtoms

all_own : (given : List Module) → AllByRecursion IsOfText given → AllOwn (given ++ prelude_modules)
all_own [] h = (
  own (length the_module_erlang.atoms) (module_atoms the_module_erlang) erlang_own,
  (own (length the_module_lists.atoms) (module_atoms the_module_lists) lists_own, tt),
)
all_own (z ∷ zs) h = (read_own h.0.0 z h.0.1, all_own zs h.1)

have_texts : (table : List (List ℕ)) (before now : List Module) → AllOwn before
    → AllZip (KeepsText table) before now → AllZip (HasText table) before now
have_texts table [] [] h k = tt
have_texts table [] (m ∷ ms) h k = absurd k
have_texts table (z ∷ zs) [] h k = absurd k
have_texts table (z ∷ zs) (m ∷ ms) h k = (k.0 h.0, have_texts table zs ms h.1 k.1)

pub linted_texts : LintedKeepTexts
linted_texts table given now read keeps =
    have_texts table (modules_of (with_prelude given)) now (all_own given read) keeps
