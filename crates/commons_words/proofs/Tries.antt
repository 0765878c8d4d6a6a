-- An append whose tries so far were lost.
use Rattle.std.proofs.Common.{ℕ, ◌<◌, List, length, sym, ◌∙◌, subst}
use Rattle.hy_words.specs.Lists.{Has, StartsWith}
use Rattle.commons.specs.declared.view.View.{View}
use Rattle.commons.specs.Steps.{knowing}
use Rattle.commons.specs.Views.{MayAppend}
use Rattle.commons.proofs.Cells.{grown_same}
use Rattle.commons.proofs.Later.{fits_before}
use Rattle.commons.proofs.Owns.{prints_more}
use Rattle.commons_words.specs.Held.{HasLost}

may_append_knowing : (a : ℕ) (v : View) (known : List ℕ) (entry : ℕ) → StartsWith known v.known → ((place : ℕ) → Has v.own place → place < length v.known) → MayAppend a v entry → MayAppend a (knowing v known) entry
may_append_knowing a v known entry more own may = record {
  names_cell = may.names_cell;
  whole = may.whole;
  actor = may.actor;
  text = λ print area fit. may.text print area (fits_before a v (knowing v known) more (grown_same v.seen) area fit) ∙ sym (prints_more area known v.known v.own more own);
}

-- the entry may still be appended
pub may_append_still : (a : ℕ) (v w : View) (entry : ℕ) → HasLost v w → ((place : ℕ) → Has v.own place → place < length v.known) → MayAppend a v entry → MayAppend a w entry
may_append_still a v w entry lost own may = subst (λ (u : View). MayAppend a u entry) (sym lost.0) (may_append_knowing a v w.known entry lost.1 own may)
