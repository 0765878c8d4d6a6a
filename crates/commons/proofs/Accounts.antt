-- The views that accounts show, when one account changes, when one is added, and when the area or the log goes on.
use Rattle.std.proofs.Common.{◌≡◌, ◌≢◌, ℕ, zero, suc, ◌+◌, ◌*◌, ◌<◌, ◌≤◌, List, [], ◌∷◌, ◌++◌, length, get_or, set, map, length-set, length-append, get_or-set_other, get_or-set_same, append-nil, sym, refl, ap, ◌∙◌, subst, arith, Bool, true, false, eq-eqb, ne_eqb}
use Rattle.std.specs.Prelude.{if◌then◌else◌, Option, Some, None}
use Rattle.std.proofs.lemmas.List.{length-map, get_or_append_left}
use Rattle.std.proofs.Math.Seq.{get_or-append_seam}
use native.Mathlib.Decide.{ℕ_discrete, dec_lt}
use mathlib.Core.Logic.{dite}
use mathlib.Core.Option.{some, some-injective, some-ne-none}
use lib.ListN.{get_elem?}
use Rattle.hy_words.specs.Lists.{Has, total}
use Rattle.commons.specs.declared.view.View.{View}
use Rattle.commons.specs.declared.plain.Account.{Account}
use Rattle.commons.specs.Rule.{At, IsKept, IsAccount, AreApart, one_if_some}
use Rattle.commons.specs.Plain.{is_parent, children_of, no_account, AreAccounts}
use Rattle.commons.proofs.Cells.{grown_same}
use Rattle.commons.proofs.Grows.{knows_whole}

abbrev pub nth : List Account → ℕ → Account
nth xs k = get_or xs k no_account

module _ {A B : Type 0} where
  pub at_map : (f : A → B) (xs : List A) (k : ℕ) (d : A) → k < length xs → get_elem? (map f xs) k ≡ some (f (get_or xs k d))
  at_map f [] k d h = absurd (omega arith)
  at_map f (x ∷ xs) zero d h = refl
  at_map f (x ∷ xs) (suc k) d h = at_map f xs k d (omega arith)

  pub from_map : (f : A → B) (xs : List A) (k : ℕ) (d : A) (b : B) → get_elem? (map f xs) k ≡ some b → (k < length xs) × (f (get_or xs k d) ≡ b)
  from_map f [] k d b e = absurd (some-ne-none b (sym e))
  from_map f (x ∷ xs) zero d b e = (omega arith, some-injective (f x) b e)
  from_map f (x ∷ xs) (suc k) d b e = let t = from_map f xs k d b e in let l = t.0 in (omega arith, t.1)

  pub map_same : (f g : A → B) (xs : List A) (d : A) → ((k : ℕ) → k < length xs → f (get_or xs k d) ≡ g (get_or xs k d)) → map f xs ≡ map g xs
  map_same f g [] d e = refl
  map_same f g (x ∷ xs) d e = ap (λ (b : B). b ∷ map f xs) (e 0 (omega arith)) ∙ ap (λ (bs : List B). g x ∷ bs) (map_same f g xs d (λ k h. e (suc k) (omega arith)))

  -- two maps that differ at one place alone are the same with that place set
  pub map_except : (f g : A → B) (xs : List A) (i : ℕ) (d : A) (b : B) → ((k : ℕ) → k ≢ i → k < length xs → f (get_or xs k d) ≡ g (get_or xs k d)) → set (map f xs) i b ≡ set (map g xs) i b
  map_except f g [] i d b e = refl
  map_except f g (x ∷ xs) zero d b e = ap (λ (bs : List B). b ∷ bs) (map_same f g xs d (λ k h. e (suc k) (λ z. omega arith) (omega arith)))
  map_except f g (x ∷ xs) (suc i) d b e = ap (λ (y : B). y ∷ set (map f xs) i b) (e 0 (λ z. omega arith) (omega arith)) ∙ ap (λ (bs : List B). g x ∷ bs) (map_except f g xs i d b (λ k n h. e (suc k) (λ z. n (omega arith)) (omega arith)))

pub any_default : (xs : List Account) (k : ℕ) (d e : Account) → k < length xs → get_or xs k d ≡ get_or xs k e
any_default [] k d e h = absurd (omega arith)
any_default (x ∷ xs) zero d e h = refl
any_default (x ∷ xs) (suc k) d e h = any_default xs k d e (omega arith)

-- an account that keeps its pid and its parent changes no list of children
pub children_set : (pid : ℕ) (xs : List Account) (i : ℕ) (x : Account) → i < length xs → x.pid ≡ (nth xs i).pid → x.parent ≡ (nth xs i).parent → children_of pid (set xs i x) ≡ children_of pid xs
children_set pid [] i x h e f = refl
children_set pid (y ∷ ys) zero x h e f = ap (λ (t : Option ℕ × ℕ). if is_parent t.0 pid then t.1 ∷ children_of pid ys else children_of pid ys) (λ i. (f i, e i))
children_set pid (y ∷ ys) (suc i) x h e f = ap (λ (zs : List ℕ). if is_parent y.parent pid then y.pid ∷ zs else zs) (children_set pid ys i x (omega arith) e f)

-- one more account is a child of its parent, and of no other
children_after : (b : Bool) (p : ℕ) (xs ys : List ℕ) → (if b then p ∷ (xs ++ ys) else (xs ++ ys)) ≡ (if b then p ∷ xs else xs) ++ ys
children_after true p xs ys = refl
children_after false p xs ys = refl

children_append : (pid : ℕ) (xs ys : List Account) → children_of pid (xs ++ ys) ≡ children_of pid xs ++ children_of pid ys
children_append pid [] ys = refl
children_append pid (x ∷ xs) ys = ap (λ (zs : List ℕ). if is_parent x.parent pid then x.pid ∷ zs else zs) (children_append pid xs ys) ∙ children_after (is_parent x.parent pid) x.pid (children_of pid xs) (children_of pid ys)

pub children_other : (pid p : ℕ) (xs : List Account) (y : Account) → y.parent ≡ Some p → p ≢ pid → children_of pid (xs ++ y ∷ []) ≡ children_of pid xs
children_other pid p xs y e n =
    children_append pid xs (y ∷ []) ∙ (ap (λ (b : Bool). children_of pid xs ++ (if b then y.pid ∷ [] else [])) (ap (λ (o : Option ℕ). is_parent o pid) e ∙ ne_eqb p pid n) ∙ append-nil (children_of pid xs))

pub children_own : (pid : ℕ) (xs : List Account) (y : Account) → y.parent ≡ Some pid → children_of pid (xs ++ y ∷ []) ≡ children_of pid xs ++ y.pid ∷ []
children_own pid xs y e = children_append pid xs (y ∷ []) ∙ ap (λ (b : Bool). children_of pid xs ++ (if b then y.pid ∷ [] else [])) (ap (λ (o : Option ℕ). is_parent o pid) e ∙ eq-eqb pid pid refl)

pub no_children : (pid : ℕ) (xs : List Account) → ((k p : ℕ) → k < length xs → (nth xs k).parent ≡ Some p → p ≢ pid) → children_of pid xs ≡ []
no_children pid [] h = refl
no_children pid (x ∷ xs) h = ap (λ (b : Bool). if b then x.pid ∷ children_of pid xs else children_of pid xs) (none x.parent (h 0)) ∙ no_children pid xs (λ k p i e. h (suc k) p (omega arith) e)
  where
    none : (o : Option ℕ) → ((p : ℕ) → 0 < length (x ∷ xs) → o ≡ Some p → p ≢ pid) → is_parent o pid ≡ false
    none None h = refl
    none (Some p) h = ne_eqb p pid (h p (omega arith) refl)

pub nth_set : (xs : List Account) (i k : ℕ) (x : Account) (P : Account → Type 0) → i < length xs → P x → (k ≢ i → P (nth xs k)) → P (nth (set xs i x) k)
nth_set xs i k x P h new old = dite (ℕ_discrete k i)
    (λ e. subst (λ (j : ℕ). P (nth (set xs i x) j)) (sym e) (subst P (sym (get_or-set_same xs i x no_account h)) new))
    (λ n. subst P (sym (get_or-set_other xs i k x no_account n)) (old n))

-- the accounts stay right where one keeps its pid and its parent
pub accounts_set : (log log' : List ℕ) (xs : List Account) (i : ℕ) (x : Account) → AreAccounts log xs → i < length xs → length log ≤ length log' → x.known ≤ length log' → x.pid ≡ (nth xs i).pid → x.parent ≡ (nth xs i).parent → AreAccounts log' (set xs i x)
accounts_set log log' xs i x r h more known pid parent = record {
  known = λ k l. nth_set xs i k x (λ (y : Account). y.known ≤ length log') h known (λ n. let b = r.known k (let z = length-set xs i x in omega arith) in omega arith);
  parents = λ k p l e.
      let size = length-set xs i x in
      let was : (nth xs k).parent ≡ Some p = dite (ℕ_discrete k i)
      (λ z. ap (λ (j : ℕ). (nth xs j).parent) z ∙ (sym parent ∙ (ap (λ (y : Account). y.parent) (sym (get_or-set_same xs i x no_account h)) ∙ (ap (λ (j : ℕ). (nth (set xs i x) j).parent) (sym z) ∙ e))))
      (λ n. ap (λ (y : Account). y.parent) (sym (get_or-set_other xs i k x no_account n)) ∙ e) in
      let t = r.parents k p (omega arith) was in
      let inside = t.1 in (
        t.0,
        omega arith,
        dite (ℕ_discrete t.0 i)
            (λ z. ap (λ (j : ℕ). (nth (set xs i x) j).pid) z ∙ (ap (λ (y : Account). y.pid) (get_or-set_same xs i x no_account h) ∙ (pid ∙ (ap (λ (j : ℕ). (nth xs j).pid) (sym z) ∙ t.2))))
            (λ n. ap (λ (y : Account). y.pid) (get_or-set_other xs i t.0 x no_account n) ∙ t.2),
      );
}

pub accounts_add : (log : List ℕ) (xs : List Account) (y : Account) (i : ℕ) → AreAccounts log xs → y.known ≤ length log → i < length xs → y.parent ≡ Some (nth xs i).pid → AreAccounts log (xs ++ y ∷ [])
accounts_add log xs y i r known h parent = record {
  known = λ k l. at k l (λ (x : Account). x.known ≤ length log) (λ b. r.known k b) known;
  parents = λ k p l e.
      let t : (j : ℕ) × (j < length xs) × ((nth xs j).pid ≡ p) = split k l p e in
      let inside = t.1 in (t.0, omega (arith, length-append xs (y ∷ [])), ap (λ (x : Account). x.pid) (get_or_append_left xs (y ∷ []) no_account t.0 t.1) ∙ t.2);
}
  where
    at : (k : ℕ) → k < length (xs ++ y ∷ []) → (P : Account → Type 0) → (k < length xs → P (nth xs k)) → P y → P (nth (xs ++ y ∷ []) k)
    at k l P old new = dite (dec_lt k (length xs))
        (λ b. subst P (sym (get_or_append_left xs (y ∷ []) no_account k b)) (old b))
        (λ n. let z : k ≡ length xs = omega (arith, length-append xs (y ∷ [])) in subst (λ (j : ℕ). P (nth (xs ++ y ∷ []) j)) (sym z) (subst P (sym (get_or-append_seam xs y [] no_account)) new))

    some_same : (p q : ℕ) → Some p ≡ Some q → p ≡ q
    some_same p q e = cc

    split : (k : ℕ) → k < length (xs ++ y ∷ []) → (p : ℕ) → (nth (xs ++ y ∷ []) k).parent ≡ Some p → (j : ℕ) × (j < length xs) × ((nth xs j).pid ≡ p)
    split k l p e = dite (dec_lt k (length xs))
        (λ b. r.parents k p b (ap (λ (x : Account). x.parent) (sym (get_or_append_left xs (y ∷ []) no_account k b)) ∙ e))
        (λ n. let z : k ≡ length xs = omega (arith, length-append xs (y ∷ [])) in
        (i, h, some_same (nth xs i).pid p (sym parent ∙ (ap (λ (x : Account). x.parent) (sym (get_or-append_seam xs y [] no_account)) ∙ (ap (λ (j : ℕ). (nth (xs ++ y ∷ []) j).parent) (sym z) ∙ e)))))

pub total_map : (f : View → ℕ) (g : View → View) (xs : List View) → ((v : View) → f (g v) ≡ f v) → total f (map g xs) ≡ total f xs
total_map f g [] e = refl
total_map f g (x ∷ xs) e = ap (λ (n : ℕ). n + total f (map g xs)) (e x) ∙ ap (λ (n : ℕ). f x + n) (total_map f g xs e)

abbrev pub with_seen : List ℕ → View → View
with_seen s v = record v { seen = s }

-- the rule holds as well where each pass has read the whole area
pub all_seen : (a l c : ℕ) (log area : List ℕ) (views : List View) → IsKept a l c log area views → IsKept a l c log area (map (with_seen area) views)
all_seen a l c log area views r =
    let g : View → View = with_seen area in
    let old : (k : ℕ) (w : View) → At (map g views) k w → (v : View) × At views k v × (g v ≡ w) = λ k w at. back views k w at in record {
      each = λ k w at. let o = old k w at in
          let m = r.each k o.0 o.1 in
          subst (IsAccount a c log area) o.2 record {
            block = m.block;
            knows = record { begins = m.knows.begins; told_begins = m.knows.told_begins; wide = r.sized; agrees = grown_same area; whole = λ cell h. knows_whole l log area o.0.known area cell r.closed r.entries m.knows.begins (grown_same area) h };
            owns = m.owns;
            names = m.names;
            refusal = m.refusal;
          };
      apart = λ j k v w n e f. let x = old j v e in let y = old k w f in
          let p = r.apart j k x.0 y.0 n x.1 y.1 in
          subst (λ (u : View). AreApart u w) x.2 (subst (λ (u : View). AreApart (g x.0) u) y.2 record { pids = p.pids; blocks = p.blocks; clear = p.clear; clear_back = p.clear_back });
      beyond = r.beyond;
      sized = r.sized;
      closed = r.closed;
      entries = r.entries;
      parents = λ k w at place up. let o = old k w at in
          let p = r.parents k o.0 o.1 place (ap (λ (u : View). u.pid) o.2 ∙ up) in
          (p.0, g p.1, on views p.0 p.1 p.2, p.3, subst (Has p.1.born) (ap (λ (u : View). u.pid) o.2) p.4);
      actors = λ place h. let t = r.actors place h in (t.0, g t.1, on views t.0 t.1 t.2, t.3);
      bound = subst (λ (m : ℕ). c ≤ a + (a + 1) * m) (sym (total_map (λ (v : View). one_if_some v.refused) g views (λ v. refl))) r.bound;
      all_requests = r.all_requests ∙ sym (total_map (λ (v : View). v.requests) g views (λ v. refl));
      all_puts = r.all_puts ∙ sym (total_map (λ (v : View). v.puts) g views (λ v. refl));
      few = let t = total_map (λ (v : View). one_if_some v.unborn) g views (λ v. refl) in let f = r.few in omega (arith, length-map views g);
    }
  where
    on : (vs : List View) (k : ℕ) (v : View) → At vs k v → At (map (with_seen area) vs) k (with_seen area v)
    on [] k v e = absurd (some-ne-none v (sym e))
    on (x ∷ xs) zero v e = ap (λ (u : View). some (with_seen area u)) (some-injective x v e)
    on (x ∷ xs) (suc k) v e = on xs k v e

    back : (vs : List View) (k : ℕ) (w : View) → At (map (with_seen area) vs) k w → (v : View) × At vs k v × (with_seen area v ≡ w)
    back [] k w e = absurd (some-ne-none w (sym e))
    back (x ∷ xs) zero w e = (x, refl, some-injective (with_seen area x) w e)
    back (x ∷ xs) (suc k) w e = back xs k w e
