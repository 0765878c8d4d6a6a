-- What was read is read again from its canonical text.
use Rattle.std.proofs.Common.{ℕ, List, [], ◌∷◌, sym, subst}
use Rattle.std.specs.List.{AllByRecursion}
use Rattle.hy_core.specs.Canonical.{canonical_text}
use Rattle.hy_core.specs.Marks.{Marked, AreSound, tokens_of}
use Rattle.hy_core.specs.Reading.{HasTree, IsModuleText}
use Rattle.hy_core.specs.Sites.{unsited}
use Rattle.hy_core.specs.declared.token.Token.{Token}
use Rattle.hy_core.specs.declared.tree.Module.{Module}
use Rattle.core_print.proofs.AgainModule.{module_again}
use Rattle.core_print.proofs.Siteless.{unsited_text}
use Rattle.core_print.proofs.Spelled.{lexed_written, spelled_lexes}
use Rattle.core_print.proofs.Spelling.{IsWritten, AreFine}

-- tokens within their levels and ranges that a text can have
all_fine : (ms : List Marked) → AreSound ms → AllByRecursion IsWritten (tokens_of ms) → AreFine ms
all_fine [] sound written = tt
all_fine (m ∷ ms) sound written = ((sound.0, written.0), all_fine ms sound.1 written.1)

all_sound : (ms : List Marked) → AreFine ms → AreSound ms
all_sound [] fine = tt
all_sound (m ∷ ms) fine = (fine.0.0, all_sound ms fine.1)

-- a text with a tree: its tokens can be written
tree_again : (source : List ℕ) (z : Module) → HasTree source z → HasTree (canonical_text z) z
tree_again source z (ls, lexes, (ms, are, sound, d)) =
    let written : AllByRecursion IsWritten (tokens_of ms) = subst (λ (ts : List Token). AllByRecursion IsWritten ts) (sym are) (lexed_written source ls _ lexes) in
    let (ns, spells, fine, again) = module_again ms z d (all_fine ms sound written) in
    let (os, lexed, same) = spelled_lexes ns (canonical_text z) fine spells in
    (os, lexed, (ns, sym same, all_sound ns fine, again))

-- the canonical text of a module whose tree, sites aside, was read
pub reads_back : (z : Module) (source : List ℕ) → IsModuleText source (unsited z) → HasTree (canonical_text z) (unsited z)
reads_back z source read = subst (λ (text : List ℕ). HasTree text (unsited z)) (unsited_text z) (tree_again source (unsited z) read.1)
