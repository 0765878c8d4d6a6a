-- The end of the commons: what the list of passes must have. The project's own.
use Rattle.std.specs.Prelude.{◌≡◌, ℕ, List}
use Rattle.hy_words.specs.Lists.{Has}
use Rattle.commons.specs.declared.view.View.{View}
use Rattle.commons.specs.Rule.{At}

-- the list has the pass with pid 0 and, with each pass, those of the children that it bore
pub record HasChildren (views : List View) : Type 0 where
  pub first : (j : ℕ) × (v : View) × At views j v × (v.pid ≡ 0)
  pub children : (j : ℕ) (v : View) (pid : ℕ) → At views j v → Has v.born pid
      → (i : ℕ) × (u : View) × At views i u × (u.pid ≡ pid)
