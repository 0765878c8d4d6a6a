-- How the numbers of a part are shared out: to the function around, and to functions of letrecs.
use Rattle.std.proofs.Common.{◌≡◌, ℕ, zero, suc, ◌+◌, ◌<◌, ◌≤◌, ◌==◌, Bool, true, false, List, [], ◌∷◌, ◌++◌}
use Rattle.std.proofs.Common.{length, replicate, refl, sym, ap, ◌∙◌, subst, append-nil, arith, if◌then◌else◌}
use Rattle.std.proofs.Common.{inl, inr}
use Rattle.std.proofs.lemmas.List.{length-append}
use Rattle.std.proofs.lemmas.Bool.{eq-eqb}
use Rattle.std.proofs.lemmas.Bool.Decides.{eqb_tells}
use Rattle.std.specs.Prelude.{◌⊎◌}
use Rattle.hy_core.specs.Resolved.{FunctionTree}
use Rattle.lifted_numbers.specs.TreeNumbers.{from}
use Rattle.number_owners.specs.ChosenNumbers.{chosen}

one_more : (b : Bool) (s : ℕ) (all xs ys : List ℕ) → all ≡ xs ++ ys
    → (if b then s ∷ all else all) ≡ (if b then s ∷ xs else xs) ++ ys
one_more true s all xs ys h = ap (λ l. s ∷ l) h
one_more false s all xs ys h = h

pub chosen_both : (k : ℕ) (os ps ss ts : List ℕ) → length os ≡ length ss
    → chosen k (os ++ ps) (ss ++ ts) ≡ chosen k os ss ++ chosen k ps ts
chosen_both k [] ps [] ts h = refl
chosen_both k [] ps (s ∷ ss) ts h = absurd cc
chosen_both k (o ∷ os) ps [] ts h = absurd cc
chosen_both k (o ∷ os) ps (s ∷ ss) ts h =
    let same : suc (length os) ≡ suc (length ss) = h in
    one_more (o == k) s (chosen k (os ++ ps) (ss ++ ts)) (chosen k os ss) (chosen k ps ts)
    (chosen_both k os ps ss ts (omega arith))

-- one of neither part
pub both_none : (k : ℕ) (os ps ss ts : List ℕ) → length os ≡ length ss → chosen k os ss ≡ []
    → chosen k ps ts ≡ [] → chosen k (os ++ ps) (ss ++ ts) ≡ []
both_none k os ps ss ts same p q = chosen_both k os ps ss ts same ∙ (λ i. p i ++ q i)

-- one of the first part, or of the second, alone
pub in_first : (k : ℕ) (os ps ss ts xs : List ℕ) → length os ≡ length ss → chosen k os ss ≡ xs
    → chosen k ps ts ≡ [] → chosen k (os ++ ps) (ss ++ ts) ≡ xs
in_first k os ps ss ts xs same p q =
    chosen_both k os ps ss ts same ∙ (λ i. p i ++ q i) ∙ append-nil xs

pub in_second : (k : ℕ) (os ps ss ts xs : List ℕ) → length os ≡ length ss → chosen k os ss ≡ []
    → chosen k ps ts ≡ xs → chosen k (os ++ ps) (ss ++ ts) ≡ xs
in_second k os ps ss ts xs same p q = chosen_both k os ps ss ts same ∙ (λ i. p i ++ q i)

-- not one of the m numbers from n on
abbrev pub Outside : (n m j : ℕ) → Type 0
Outside n m j = (j < n) ⊎ (n + m ≤ j)

-- an owner at the front
mine : (k s : ℕ) (os ss : List ℕ) → chosen k (k ∷ os) (s ∷ ss) ≡ s ∷ chosen k os ss
mine k s os ss =
    ap (λ b. if b then s ∷ chosen k os ss else chosen k os ss) (eq-eqb k k refl)

not_mine : (k j s : ℕ) (os ss : List ℕ) → (k ≡ j → ⊥)
    → chosen j (k ∷ os) (s ∷ ss) ≡ chosen j os ss
not_mine k j s os ss not = by (eqb_tells k j)
  where
    by : ((k == j) ≡ true) × (k ≡ j) ⊎ ((k == j) ≡ false) × (k ≡ j → ⊥)
        → chosen j (k ∷ os) (s ∷ ss) ≡ chosen j os ss
    by (inl h) = absurd (not h.1)
    by (inr h) = ap (λ b. if b then s ∷ chosen j os ss else chosen j os ss) h.0

-- part: which numbers of a function are meant
module _ (part : FunctionTree → List ℕ) where
  -- these functions, of which the first has the number n, have the numbers that are theirs
  abbrev pub Inner : (n : ℕ) → List FunctionTree → (owners sites : List ℕ) → Type 0
  Inner n [] os ss = Unit {0}
  Inner n (t ∷ ts) os ss = (chosen n os ss ≡ part t) × Inner (suc n) ts os ss

  -- The sites of a part: those of the function k around are `own`, and those of m functions of
  -- letrecs, of which the first has the number n, are those of the functions `inner`.
  pub record Shares (k n m : ℕ) (os ss own : List ℕ) (inner : List FunctionTree) : Type 0 where
    pub same : length os ≡ length ss
    pub owned : chosen k os ss ≡ own
    pub none : (j : ℕ) → (j ≡ k → ⊥) → Outside n m j → chosen j os ss ≡ []
    pub inside : Inner n inner os ss
    pub many : length inner ≡ m

  pub no_sites : (k n : ℕ) → Shares k n 0 [] [] [] []
  no_sites k n = record {
    same = refl;
    owned = refl;
    none = λ j not out. refl;
    inside = tt;
    many = refl;
  }

  -- functions whose sites are all in the first part, or in the second
  pub inner_first : (n : ℕ) (inner : List FunctionTree) (os ps ss ts : List ℕ)
      → length os ≡ length ss
      → ((j : ℕ) → n ≤ j → j < n + length inner → chosen j ps ts ≡ [])
      → Inner n inner os ss → Inner n inner (os ++ ps) (ss ++ ts)
  inner_first n [] os ps ss ts same none h = tt
  inner_first n (t ∷ inner) os ps ss ts same none h = (
    in_first n os ps ss ts (part t) same h.0 (none n (omega arith) (omega arith)),
    inner_first (suc n) inner os ps ss ts same
        (λ j over under. none j (omega (arith, over)) (omega (arith, under))) h.1,
  )

  pub inner_second : (n : ℕ) (inner : List FunctionTree) (os ps ss ts : List ℕ)
      → length os ≡ length ss
      → ((j : ℕ) → n ≤ j → j < n + length inner → chosen j os ss ≡ [])
      → Inner n inner ps ts → Inner n inner (os ++ ps) (ss ++ ts)
  inner_second n [] os ps ss ts same none h = tt
  inner_second n (t ∷ inner) os ps ss ts same none h = (
    in_second n os ps ss ts (part t) same (none n (omega arith) (omega arith)) h.0,
    inner_second (suc n) inner os ps ss ts same
        (λ j over under. none j (omega (arith, over)) (omega (arith, under))) h.1,
  )

  pub inner_both : (n m : ℕ) (xs ys : List FunctionTree) (os ss : List ℕ) → length xs ≡ m
      → Inner n xs os ss → Inner (n + m) ys os ss → Inner n (xs ++ ys) os ss
  inner_both n m [] ys os ss many h g =
      let at : n + m ≡ n = omega (arith, many) in subst (λ n. Inner n ys os ss) at g
  inner_both n m (x ∷ xs) ys os ss many h g =
      let at : n + m ≡ suc n + length xs = omega (arith, many) in (
        h.0,
        inner_both (suc n) (length xs) xs ys os ss refl h.1
            (subst (λ n. Inner n ys os ss) at g),
      )

  -- a part, and behind it another one
  pub shares_both : {k n m l : ℕ} {os ps ss ts own more : List ℕ} {xs ys : List FunctionTree}
      → k < n → Shares k n m os ss own xs → Shares k (n + m) l ps ts more ys
      → Shares k n (m + l) (os ++ ps) (ss ++ ts) (own ++ more) (xs ++ ys)
  shares_both {k = k} {n = n} {m = m} {l = l} {os = os} {ps = ps} {ss = ss} {ts = ts} {xs = xs} {ys = ys} low h g = record {
    same = length-append os ps ∙ (λ i. h.same i + g.same i) ∙ sym (length-append ss ts);
    owned = chosen_both k os ps ss ts h.same ∙ (λ i. h.owned i ++ g.owned i);
    none = λ j not out. both_none j os ps ss ts h.same (h.none j not (first j out)) (g.none j not (second j out));
    inside =
        inner_both n m xs ys (os ++ ps) (ss ++ ts) h.many
        (inner_first n xs os ps ss ts h.same
        (λ j over under. g.none j (λ e. omega (arith, e, low, over)) (inl (omega (arith, h.many, under))))
        h.inside)
        (inner_second (n + m) ys os ps ss ts h.same
        (λ j over under. h.none j (λ e. omega (arith, e, low, over)) (inr over)) g.inside);
    many = length-append xs ys ∙ (λ i. h.many i + g.many i);
  }
    where
      first : (j : ℕ) → Outside n (m + l) j → Outside n m j
      first j (inl under) = inl under
      first j (inr over) = inr (omega (arith, over))

      second : (j : ℕ) → Outside n (m + l) j → Outside (n + m) l j
      second j (inl under) = inl (omega (arith, under))
      second j (inr over) = inr (omega (arith, over))

  inner_behind : (k s n : ℕ) (inner : List FunctionTree) (os ss : List ℕ) → k < n
      → Inner n inner os ss → Inner n inner (k ∷ os) (s ∷ ss)
  inner_behind k s n [] os ss low h = tt
  inner_behind k s n (t ∷ inner) os ss low h = (
    not_mine k n s os ss (λ is. omega (arith, is, low)) ∙ h.0,
    inner_behind k s (suc n) inner os ss (omega (arith, low)) h.1,
  )

  shares_one : {k n m : ℕ} {os ss own : List ℕ} {inner : List FunctionTree} (s : ℕ)
      → k < n → Shares k n m os ss own inner → Shares k n m (k ∷ os) (s ∷ ss) (s ∷ own) inner
  shares_one {k = k} {n = n} {os = os} {ss = ss} {inner = inner} s low h = record {
    same = ap (λ c. suc c) h.same;
    owned = mine k s os ss ∙ ap (λ l. s ∷ l) h.owned;
    none = λ j not out. not_mine k j s os ss (λ is. not (sym is)) ∙ h.none j not out;
    inside = inner_behind k s n inner os ss low h.inside;
    many = h.many;
  }

  -- so many sites of the function around, and behind them others
  pub shares_own : {k n m : ℕ} {os ss own : List ℕ} {inner : List FunctionTree} (site heads : ℕ)
      → k < n → Shares k n m os ss own inner
      → Shares k n m (replicate heads k ++ os) (from site heads ++ ss) (from site heads ++ own) inner
  shares_own site zero low h = h
  shares_own site (suc heads) low h = shares_one site low (shares_own (suc site) heads low h)

  -- A function of a letrec: its own sites are those of its lifted body.
  pub shares_function : {k n m : ℕ} {os ss own : List ℕ} {inner : List FunctionTree}
      (xs : FunctionTree) → k < n → part xs ≡ own → Shares n (suc n) m os ss own inner
      → Shares k n (suc m) os ss [] (xs ∷ inner)
  shares_function {k = k} {n = n} {m = m} t low is h = record {
    same = h.same;
    owned = h.none k (λ e. omega (arith, e, low)) (inl (omega (arith, low)));
    none = λ j not out. h.none j (outside j out).0 (outside j out).1;
    inside = (h.owned ∙ sym is, h.inside);
    many = ap (λ c. suc c) h.many;
  }
    where
      outside : (j : ℕ) → Outside n (suc m) j → (j ≡ n → ⊥) × Outside (suc n) m j
      outside j (inl under) = ((λ e. omega (arith, e, under)), inl (omega (arith, under)))
      outside j (inr over) = ((λ e. omega (arith, e, over)), inr (omega (arith, over)))
