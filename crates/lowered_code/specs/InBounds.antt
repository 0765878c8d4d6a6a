-- Programs whose numbers and sizes an engine can hold. This project's own.
use Rattle.std.specs.Prelude.{◌≡◌, ℕ, ◌<◌, ◌≤◌, ◌^◌, List, length}
use Rattle.std.specs.List.{All}
use Rattle.hy_terms.specs.Range.{IsNumber}
use Rattle.hy_core.specs.Resolved as r
use Rattle.hy_core.specs.Resolved.{Head, Expression, Expressions, NoExpressions, MoreExpressions}
use Rattle.hy_core.specs.Resolved.{Clauses, NoClauses, MoreClauses, Functions, NoFunctions}
use Rattle.hy_core.specs.Resolved.{MoreFunctions, FunctionTree}
use Rattle.hy_core.specs.Supplied.{expression_count}
use Rattle.hy_core.specs.declared.info.FunInfo.{FunInfo}
use Rattle.hy_core.specs.declared.info.SiteInfo.{SiteInfo}

-- a process is started with at most 255 arguments
abbrev pub CallIsInBounds : Head → (arguments : ℕ) → Type 0
CallIsInBounds (r.Spawn node f) arguments = arguments ≤ 255
CallIsInBounds _ arguments = Unit {0}

-- its numbers are in the range of numbers, its tuples have at most 2^20 parts, and its strings 1 to
-- 2^20 bytes
abbrev mutual
  pub IsInBounds : Expression → Type 0
  IsInBounds (r.Int n) = IsNumber n
  IsInBounds (r.Text site text) = (1 ≤ length text) × (length text ≤ 2 ^ 20)
  IsInBounds (r.Tuple site es) = (expression_count es ≤ 2 ^ 20) × AreInBounds es
  IsInBounds (r.ListOf site es e) = AreInBounds es × IsInBounds e
  IsInBounds (r.Values es) = AreInBounds es
  IsInBounds (r.Let xs e b) = IsInBounds e × IsInBounds b
  IsInBounds (r.Do e b) = IsInBounds e × IsInBounds b
  IsInBounds (r.Case e cs) = IsInBounds e × ClausesAreInBounds cs
  IsInBounds (r.Letrec fs e) = FunctionsAreInBounds fs × IsInBounds e
  IsInBounds (r.Call head es) = CallIsInBounds head (expression_count es) × AreInBounds es
  IsInBounds (r.Receive cs timeout e) = ClausesAreInBounds cs × IsInBounds e
  IsInBounds _ = Unit {0}

  pub AreInBounds : Expressions → Type 0
  AreInBounds NoExpressions = Unit {0}
  AreInBounds (MoreExpressions e es) = IsInBounds e × AreInBounds es

  pub ClausesAreInBounds : Clauses → Type 0
  ClausesAreInBounds NoClauses = Unit {0}
  ClausesAreInBounds (MoreClauses ps g b cs) = IsInBounds g × IsInBounds b × ClausesAreInBounds cs

  pub FunctionsAreInBounds : Functions → Type 0
  FunctionsAreInBounds NoFunctions = Unit {0}
  FunctionsAreInBounds (MoreFunctions f xs b fs) = IsInBounds b × FunctionsAreInBounds fs

-- A program with its tables: at most 65,535 functions and 2^20 sites, a name for each function, and
-- each site in one of the functions.
pub record IsInLimits (sites : List SiteInfo) (names : List FunInfo) (lifted : List FunctionTree)
    : Type 0 where
  pub few_functions : length lifted ≤ 65535
  pub few_sites : length sites ≤ 2 ^ 20
  pub as_many_names : length names ≡ length lifted
  pub in_functions : All (λ (site : SiteInfo). site.function < length lifted) sites
  pub bodies : All (λ (f : FunctionTree). IsInBounds f.body) lifted
