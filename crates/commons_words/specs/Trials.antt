-- Passes in the tests. The project's own.
use Rattle.std.specs.Prelude.{◌≡◌, ℕ, List, None}
use Rattle.commons.specs.declared.view.View.{View}

-- a pass with this pid and these children may claim, append and be told
pub record IsReady (v : View) (pid : ℕ) (born : List ℕ) : Type 0 where
  pub refused : v.refused ≡ None
  pub unborn : v.unborn ≡ None
  pub pid_is : v.pid ≡ pid
  pub born_are : v.born ≡ born
