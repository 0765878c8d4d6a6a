-- The plain form: what a pass knows, by the account that the commons keep of it. The project's own.
use Rattle.std.specs.Prelude.{◌≡◌, ◌≢◌, ℕ, ◌<◌, ◌≤◌, Bool, false, List, [], ◌∷◌, length, map, take, slice_index_or, Option, Some, None, if◌then◌else◌, ◌==◌, vec_capacity}
use Rattle.hy_words.specs.Lists.{Grown, StartsWith}
use Rattle.commons.specs.declared.view.View.{View}
use Rattle.commons.specs.declared.plain.Account.{Account}
use Rattle.commons.specs.declared.plain.PlainCommons.{PlainCommons}
use Rattle.commons.specs.declared.plain.PlainPass.{PlainPass}
use Rattle.commons.specs.Log.{own_places}
use Rattle.commons.specs.Views.{IsAreaSize, IsLogSize, IsSound}
use Rattle.commons.specs.Rule.{IsKept}

abbrev pub is_parent : Option ℕ → ℕ → Bool
is_parent None pid = false
is_parent (Some p) pid = p == pid

-- the children of a pid, in the order of their accounts
abbrev pub children_of : ℕ → List Account → List ℕ
children_of pid [] = []
children_of pid (x ∷ xs) =
    if is_parent x.parent pid then x.pid ∷ children_of pid xs else children_of pid xs

-- what a pass with this account knows: all written words of the area count as read
abbrev pub shown : (log area : List ℕ) → List Account → Account → View
shown log area accounts x =
    record {
      pid = x.pid;
      known = take x.known log;
      told = None;
      own = own_places area x.pid 0 log;
      born = children_of x.pid accounts;
      unborn = x.unborn;
      block_start = x.block_start;
      block_end = x.block_end;
      seen = area;
      looks = x.looks;
      puts = x.puts;
      requests = x.requests;
      refused = x.refused;
    }

abbrev pub no_account : Account
no_account =
    record {
      pid = 0;
      parent = None;
      known = 0;
      unborn = None;
      block_start = 0;
      block_end = 0;
      looks = 0;
      puts = 0;
      requests = 0;
      refused = None;
    }

abbrev pub account_in : PlainCommons → PlainPass → Account
account_in c p = slice_index_or c.accounts.items p.slot no_account

abbrev pub shown_in : PlainCommons → Account → View
shown_in c x = shown c.log.items c.area.items c.accounts.items x

abbrev pub view_in : PlainCommons → PlainPass → View
view_in c p = shown_in c (account_in c p)

abbrev pub views_in : PlainCommons → List View
views_in c = map (shown_in c) c.accounts.items

abbrev pub area_size_in : PlainCommons → ℕ
area_size_in c = length c.area.items

abbrev pub log_size_in : PlainCommons → ℕ
log_size_in c = c.log_size

-- the claim word
abbrev pub claim_in : PlainCommons → ℕ
claim_in c = c.claim

-- the written words of the log
abbrev pub log_in : PlainCommons → List ℕ
log_in c = c.log.items

-- no account knows more than the log has, and each parent has an account
pub record AreAccounts (log : List ℕ) (accounts : List Account) : Type 0 where
  pub known : (k : ℕ) → k < length accounts
      → (slice_index_or accounts k no_account).known ≤ length log
  pub parents : (k p : ℕ) → k < length accounts
      → (slice_index_or accounts k no_account).parent ≡ Some p → (j : ℕ) × (j < length accounts)
      × ((slice_index_or accounts j no_account).pid ≡ p)

-- a pass of the commons: its account is there, and the rule holds of the whole
pub record IsPassIn (c : PlainCommons) (p : PlainPass) : Type 0 where
  pub there : p.slot < length c.accounts.items
  pub pid : (account_in c p).pid ≡ p.pid
  pub area_size : IsAreaSize (area_size_in c)
  pub log_size : IsLogSize (log_size_in c)
  pub reserved : c.log_size ≤ vec_capacity c.log
  pub accounts : AreAccounts c.log.items c.accounts.items
  pub kept : IsKept (area_size_in c) (log_size_in c) c.claim c.log.items c.area.items (views_in c)
  pub sound : IsSound (area_size_in c) (log_size_in c) (view_in c p)

abbrev pub IsApartIn : PlainPass → PlainPass → Type 0
IsApartIn p q = p.pid ≢ q.pid

-- written words stay, and the log goes on
pub record IsLaterIn (c d : PlainCommons) : Type 0 where
  pub area_size : area_size_in d ≡ area_size_in c
  pub log_size : log_size_in d ≡ log_size_in c
  pub area : Grown c.area.items d.area.items
  pub log : StartsWith d.log.items c.log.items
