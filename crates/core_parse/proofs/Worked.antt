-- A text of spaces ends before a module begins.
use Rattle.std.proofs.Common.{◌≡◌, ℕ, ◌≤◌, ◌^◌, List, [], ◌∷◌, length, refl}
use Rattle.std.specs.List.{AllByRecursion}
use Rattle.hy_core.specs.Tokens.{Lexes, done, space}
use Rattle.hy_core.specs.Marks.{Marked, at, plain, symbol}
use Rattle.hy_core.specs.Numbering.{atom_number, with_atom, no_tables}
use Rattle.hy_core.specs.Annotations as notes
use Rattle.hy_core.specs.Grammar as mods
use Rattle.hy_core.specs.Grammar.{IsModule, module_of}
use Rattle.hy_core.specs.Refusals.{HasEnded, IsRefusedText}
use Rattle.hy_core.specs.declared.token.Symbol.TheVariants as w
use Rattle.hy_core.specs.declared.token.Token.TheVariants as t
use Rattle.hy_core.specs.declared.token.Ending.TheVariants as ends
use Rattle.hy_core.specs.declared.refusal.RefusalKind.TheVariants.{Ended}
use Rattle.hy_core.specs.declared.tree.Module.{Module}
use Rattle.core_parse.specs.Answers.{IsSpace}

spaces_lex : (bytes : List ℕ) → AllByRecursion IsSpace bytes → Lexes bytes [] ends.Clean
spaces_lex [] h = done
spaces_lex (b ∷ bytes) h = space h.0 (spaces_lex bytes h.1)

-- module '' [ ] attributes [ ] end, behind its first token
rest : List Marked
rest = plain (t.Atom []) ∷ symbol w.OpenList ∷ symbol w.CloseList ∷ symbol w.Attributes ∷ symbol w.OpenList ∷ symbol w.CloseList ∷ symbol w.End ∷ []

empty_module : Module
empty_module = module_of (atom_number no_tables []) [] [] (with_atom no_tables [])

is_module : IsModule (at 0 (t.Symbol w.Module) ∷ rest) empty_module
unfolding rest empty_module
is_module = mods.plain_module [] mods.no_exports notes.none mods.no_definitions

nothing_ended : HasEnded []
nothing_ended = ([], rest, at 0 (t.Symbol w.Module), empty_module, refl, tt, is_module)

pub spaces_end : (bytes : List ℕ) → AllByRecursion IsSpace bytes → length bytes ≤ 2 ^ 20 → IsRefusedText bytes Ended (length bytes)
spaces_end bytes spaces few = (few, [], ends.Clean, spaces_lex bytes spaces, (refl, nothing_ended))
