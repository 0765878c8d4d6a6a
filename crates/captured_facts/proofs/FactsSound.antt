-- Each fact of a program is one of its definitions: a variable occurs in the function or the
-- function uses another one, with the scopes of both around one place.
use Rattle.std.proofs.Common.{◌≡◌, ◌⊎◌, ℕ, suc, ◌+◌, ◌<◌, ◌≤◌, List, [], ◌∷◌, ◌++◌, length, Bool}
use Rattle.std.proofs.Common.{true, false, refl, sym, ap, subst, arith, inl, inr}
use Rattle.std.proofs.Common.{⊎_elim, Option, Some, None}
use Rattle.std.specs.Prelude.{◌&&◌, nat_le, nat_lt, if◌then◌else◌}
use Rattle.std.proofs.lemmas.Bool.{leb-true, ltb-true}
use Rattle.std.proofs.lemmas.Option.{none-some, same_Some}
use Rattle.hy_core.specs.Resolved as r
use Rattle.hy_core.specs.Resolved.{Head, Expression, Expressions, NoExpressions, MoreExpressions}
use Rattle.hy_core.specs.Resolved.{Clauses, NoClauses, MoreClauses, is_name}
use Rattle.hy_core.specs.Resolved.{Functions, NoFunctions, MoreFunctions, FunctionTree}
use Rattle.hy_core.specs.Scopes.{Scope, with_variables, with_patterns}
use Rattle.hy_core.specs.declared.tree.FunName.{FunName}
use Rattle.capture_flow.specs.declared.fact.Fact.{Fact}
use Rattle.capture_flow.specs.declared.fact.Fact.TheVariants.{Occurs, Uses}
use Rattle.lifted_program.specs.Captured.{Use, OfVariable, OfFunction, use_of, head_uses}
use Rattle.lifted_program.specs.Captured.{uses, uses_all, uses_clauses, uses_functions}
use Rattle.lifted_program.specs.Captured.{Definition, definitions, definitions_all, definitions_of}
use Rattle.lifted_program.specs.Captured.{definitions_clauses, definitions_functions}
use Rattle.lifted_program.specs.LetrecNumbers.{count, count_all, count_clauses, count_functions}
use Rattle.lifted_program.specs.LetrecNumbers.{Reach, reach_of, number_in}
use Rattle.lifted_program.proofs.ReadyLemmas.{HaveAll, have_left, have_right, further}
use Rattle.lifted_program.proofs.ReadyLemmas.{definitions-count, definitions_all-count}
use Rattle.lifted_program.proofs.ReadyLemmas.{definitions_clauses-count, definitions_functions-count}
use Rattle.lifted_program.proofs.Variables.{In, in_left, in_right, in_split}
use Rattle.captured_facts.specs.Facts.{first_place, occurring, using, using_some, head_facts}
use Rattle.captured_facts.specs.Facts.{facts, facts_all, facts_clauses, facts_functions}
use Rattle.captured_facts.specs.Facts.{facts_of, outermost}
use Rattle.captured_facts.specs.declared.owner.Owner.{Owner}
use Rattle.captured_facts.proofs.Places.{Within, Placed, within_all, within_patterns}
use Rattle.captured_facts.proofs.Places.{within_same, within_then, within_variables, place_held}

-- the function with this number, in whose scope these variables are
abbrev pub owner_of : ℕ → Scope → Owner
owner_of f s = record { function = f; depth = length s }

-- the second of two parts, by the numbers of the first
pub behind_part : (P : ℕ → Definition → Type 0) (n c : ℕ) (a b : List Definition) → length a ≡ c
    → HaveAll P n (a ++ b) → HaveAll P (n + c) b
behind_part P n c a b e h = have_right P n (n + c) a b (ap (λ l. n + l) (sym e)) h

pub behind_body : (P : ℕ → Definition → Type 0) (n c : ℕ) (a b : List Definition) → length a ≡ c
    → HaveAll P (suc n) (a ++ b) → HaveAll P (suc (n + c)) b
behind_body P n c a b e h =
    have_right P (suc n) (suc (n + c)) a b (further n c (length a) e) h

module _ (D : ℕ → Definition → Type 0)
    (same : (f : ℕ) (d c : Definition) → D f d → D f c → d ≡ c) where
  -- the letrecs of the functions that can be applied are around this place
  abbrev pub Around : Scope → Reach → Type 0
  Around scope [] = Unit {0}
  Around scope (g ∷ reach) =
      ((d : Definition) → D g.1 d → Within d.scope scope) × Around scope reach

  pub around_deeper : {s t : Scope} (reach : Reach) → Within s t → Around s reach
      → Around t reach
  around_deeper [] w a = tt
  around_deeper (g ∷ reach) w a =
      (λ d h. within_then (a.0 d h) w, around_deeper reach w a.1)

  pub around_found : (scope : Scope) (reach : Reach) (f : FunName) (g : ℕ)
      → number_in reach f ≡ Some g → Around scope reach → (d : Definition) → D g d
      → Within d.scope scope
  around_found scope [] f g e a d h = absurd (none-some g e)
  around_found scope (k ∷ reach) f g e a d h =
      by (is_name k.0 f) e (λ i. around_found scope reach f g i a.1 d h)
    where
      by : (b : Bool) → (if b then Some k.1 else number_in reach f) ≡ Some g
          → (number_in reach f ≡ Some g → Within d.scope scope) → Within d.scope scope
      by true i rest = a.0 d (subst (λ k. D k d) (sym (same_Some k.1 g i)) h)
      by false i rest = rest i

  -- a function has one scope
  pub scope_same : (f : ℕ) (s : Scope) (us : List Use) → D f (record { scope = s; uses = us })
      → (c : Definition) → D f c → Within c.scope s
  scope_same f s us h c k =
      within_same c.scope s (ap (λ (d : Definition). d.scope) (same f (record { scope = s; uses = us }) c h k))

  pub around_letrec : (fs : Functions) (scope : Scope) (inside reach : Reach) (n : ℕ)
      → HaveAll D n (definitions_functions scope inside n fs) → Around scope reach
      → Around scope (reach_of n fs ++ reach)
  around_letrec NoFunctions scope inside reach n h a = a
  around_letrec (MoreFunctions f xs b fs) scope inside reach n h a =
      let bodies = definitions (with_variables scope xs) inside (suc n) b in
      let others = definitions_functions scope inside (suc (n + count b)) fs in (
        scope_same n scope (uses inside (suc n) b) h.0,
        around_letrec fs scope inside reach (suc (n + count b))
            (behind_body D n (count b) bodies others
            (definitions-count b (with_variables scope xs) inside (suc n)) h.1) a,
      )

  -- what is used here is used by the function around, where something is in its scope
  abbrev Owned : ℕ → Scope → List Use → Type 0
  Owned f s us =
      0 < length s → (all : List Use) × D f (record { scope = s; uses = all })
      × ((u : Use) → In u us → In u all)

  owned_left : {f : ℕ} {s : Scope} (us vs : List Use) → Owned f s (us ++ vs) → Owned f s us
  owned_left us vs o l =
      let h = o l in (h.0, h.1, λ u i. h.2 u (in_left u us vs i))

  owned_right : {f : ℕ} {s : Scope} (us vs : List Use) → Owned f s (us ++ vs) → Owned f s vs
  owned_right us vs o l =
      let h = o l in (h.0, h.1, λ u i. h.2 u (in_right u us vs i))

  -- the scopes of two functions are around one place, and the first applies the second or has it
  -- in its text
  abbrev pub Joined : Definition → Definition → (used : ℕ) → Type 0
  Joined d c g =
      (t : Scope) × Within d.scope t × Within c.scope t
      × (In (OfFunction g) d.uses ⊎ ((u : Use) → In u c.uses → In u d.uses))

  abbrev pub Valid : Fact → Type 0
  Valid (Occurs m) =
      (d : Definition) × D m.function d × Placed d.scope m.variable m.place
      × In (OfVariable m.variable) d.uses
  Valid (Uses e) =
      (d : Definition) × D e.function d × (e.depth ≡ length d.scope)
      × ((c : Definition) → D e.used c → Joined d c e.used)

  occurring-by : (f : ℕ) (s scope : Scope) (x p : ℕ) → first_place scope x ≡ p → Within s scope
      → Owned f s (OfVariable x ∷ []) → (u : Fact) → (some inside : Bool) → nat_lt 0 p ≡ some
      → nat_le p (length s) ≡ inside
      → In u (if some && inside
      then Occurs (record { function = f; variable = x; place = p }) ∷ [] else []) → Valid u
  occurring-by f s scope x p is w own u true true a b (inl e) =
      let some : 0 < p = ltb-true 0 p a in
      let inside : p ≤ length s = leb-true p (length s) b in
      let h = own (omega (arith, some, inside)) in
      subst Valid (sym e) (
        record { scope = s; uses = h.0 },
        h.1,
        place_held x p w (is, some) inside,
        h.2 (OfVariable x) (inl refl),
      )
  occurring-by f s scope x p is w own u true true a b (inr k) = absurd k
  occurring-by f s scope x p is w own u true false a b k = absurd k
  occurring-by f s scope x p is w own u false inside a b k = absurd k

  occurring-valid : (f : ℕ) (s scope : Scope) (x : ℕ) → Within s scope
      → Owned f s (OfVariable x ∷ []) → (u : Fact)
      → In u (occurring (owner_of f s) x (first_place scope x)) → Valid u
  occurring-valid f s scope x w own u =
      let p = first_place scope x in
      occurring-by f s scope x p refl w own u (nat_lt 0 p) (nat_le p (length s)) refl refl

  using-by : (f : ℕ) (s : Scope) (g : ℕ) (us : List Use) → Owned f s us
      → ((all : List Use) → ((u : Use) → In u us → In u all) → (c : Definition) → D g c
      → Joined (record { scope = s; uses = all }) c g)
      → (u : Fact) (some : Bool) → nat_lt 0 (length s) ≡ some
      → In u (if some
      then Uses (record { function = f; used = g; depth = length s }) ∷ [] else []) → Valid u
  using-by f s g us own join u true a (inl i) =
      let h = own (ltb-true 0 (length s) a) in
      subst Valid (sym i)
      (record { scope = s; uses = h.0 }, h.1, refl, λ c k. join h.0 h.2 c k)
  using-by f s g us own join u true a (inr k) = absurd k
  using-by f s g us own join u false a k = absurd k

  using-valid : (f : ℕ) (s : Scope) (g : ℕ) (us : List Use) → Owned f s us
      → ((all : List Use) → ((u : Use) → In u us → In u all) → (c : Definition) → D g c
      → Joined (record { scope = s; uses = all }) c g)
      → (u : Fact) → In u (using (owner_of f s) g) → Valid u
  using-valid f s g us own join u =
      using-by f s g us own join u (nat_lt 0 (length s)) refl

  head-valid : (head : Head) (f : ℕ) (s scope : Scope) (reach : Reach) → Within s scope
      → Owned f s (head_uses reach head) → Around scope reach → (u : Fact)
      → In u (head_facts (owner_of f s) reach head) → Valid u
  head-valid (r.Local name) f s scope reach w own a u i = by (number_in reach name) refl own i
    where
      by : (o : Option ℕ) → number_in reach name ≡ o → Owned f s (use_of o)
          → In u (using_some (owner_of f s) o) → Valid u
      by None e h k = absurd k
      by (Some g) e h k =
          using-valid f s g (OfFunction g ∷ []) h
          (λ all i c d. (
            scope,
            w,
            around_found scope reach name g e a c d,
            inl (i (OfFunction g) (inl refl)),
          )) u k
  head-valid _ f s scope reach w own a u k = absurd k

  mutual
    pub sound : (e : Expression) (f : ℕ) (s scope : Scope) (reach : Reach) (n : ℕ)
        → Within s scope → Owned f s (uses reach n e) → Around scope reach
        → HaveAll D n (definitions scope reach n e) → (u : Fact)
        → In u (facts (owner_of f s) scope reach n e) → Valid u
    sound (r.Variable x) f s scope reach n w own a h u i = occurring-valid f s scope x w own u i
    sound (r.Tuple site es) f s scope reach n w own a h u i =
        all_sound es f s scope reach n w own a h u i
    sound (r.ListOf site es e) f s scope reach n w own a h u i =
        let o = owner_of f s in
        let m = n + count_all es in
        let d = definitions_all scope reach n es in
        let d' = definitions scope reach m e in
        let us = uses_all reach n es in
        let vs = uses reach m e in
        ⊎_elim
        (λ k. all_sound es f s scope reach n w (owned_left us vs own) a
        (have_left D n d d' h) u k)
        (λ k. sound e f s scope reach m w (owned_right us vs own) a
        (behind_part D n (count_all es) d d' (definitions_all-count es scope reach n) h) u k)
        (in_split u (facts_all o scope reach n es) (facts o scope reach m e) i)
    sound (r.Values es) f s scope reach n w own a h u i =
        all_sound es f s scope reach n w own a h u i
    sound (r.Let xs e b) f s scope reach n w own a h u i =
        let o = owner_of f s in
        let m = n + count e in
        let inner = with_variables scope xs in
        let deeper = within_variables scope xs in
        let d = definitions scope reach n e in
        let d' = definitions inner reach m b in
        let us = uses reach n e in
        let vs = uses reach m b in
        ⊎_elim
        (λ k. sound e f s scope reach n w (owned_left us vs own) a (have_left D n d d' h) u k)
        (λ k. sound b f s inner reach m (within_then w deeper) (owned_right us vs own)
        (around_deeper reach deeper a)
        (behind_part D n (count e) d d' (definitions-count e scope reach n) h) u k)
        (in_split u (facts o scope reach n e) (facts o inner reach m b) i)
    sound (r.Do e b) f s scope reach n w own a h u i =
        let o = owner_of f s in
        let m = n + count e in
        let d = definitions scope reach n e in
        let d' = definitions scope reach m b in
        let us = uses reach n e in
        let vs = uses reach m b in
        ⊎_elim
        (λ k. sound e f s scope reach n w (owned_left us vs own) a (have_left D n d d' h) u k)
        (λ k. sound b f s scope reach m w (owned_right us vs own) a
        (behind_part D n (count e) d d' (definitions-count e scope reach n) h) u k)
        (in_split u (facts o scope reach n e) (facts o scope reach m b) i)
    sound (r.Case e cs) f s scope reach n w own a h u i =
        let o = owner_of f s in
        let m = n + count e in
        let d = definitions scope reach n e in
        let d' = definitions_clauses scope reach m cs in
        let us = uses reach n e in
        let vs = uses_clauses reach m cs in
        ⊎_elim
        (λ k. sound e f s scope reach n w (owned_left us vs own) a (have_left D n d d' h) u k)
        (λ k. clauses_sound cs f s scope reach m w (owned_right us vs own) a
        (behind_part D n (count e) d d' (definitions-count e scope reach n) h) u k)
        (in_split u (facts o scope reach n e) (facts_clauses o scope reach m cs) i)
    sound (r.Letrec fs e) f s scope reach n w own a h u i =
        let o = owner_of f s in
        let inside = reach_of n fs ++ reach in
        let m = n + count_functions fs in
        let d = definitions_functions scope inside n fs in
        let d' = definitions scope inside m e in
        let us = uses_functions inside n fs in
        let vs = uses inside m e in
        let around = around_letrec fs scope inside reach n (have_left D n d d' h) a in
        ⊎_elim
        (λ k. functions_sound fs f s scope inside n w (owned_left us vs own) around
        (have_left D n d d' h) u k)
        (λ k. sound e f s scope inside m w (owned_right us vs own) around
        (behind_part D n (count_functions fs) d d'
        (definitions_functions-count fs scope inside n) h) u k)
        (in_split u (facts_functions o scope inside n fs) (facts o scope inside m e) i)
    sound (r.Call head es) f s scope reach n w own a h u i =
        let o = owner_of f s in
        let us = head_uses reach head in
        let vs = uses_all reach n es in
        ⊎_elim
        (λ k. head-valid head f s scope reach w (owned_left us vs own) a u k)
        (λ k. all_sound es f s scope reach n w (owned_right us vs own) a h u k)
        (in_split u (head_facts o reach head) (facts_all o scope reach n es) i)
    sound (r.Receive cs timeout e) f s scope reach n w own a h u i =
        let o = owner_of f s in
        let m = n + count_clauses cs in
        let d = definitions_clauses scope reach n cs in
        let d' = definitions scope reach m e in
        let us = uses_clauses reach n cs in
        let vs = uses reach m e in
        ⊎_elim
        (λ k. clauses_sound cs f s scope reach n w (owned_left us vs own) a
        (have_left D n d d' h) u k)
        (λ k. sound e f s scope reach m w (owned_right us vs own) a
        (behind_part D n (count_clauses cs) d d'
        (definitions_clauses-count cs scope reach n) h) u k)
        (in_split u (facts_clauses o scope reach n cs) (facts o scope reach m e) i)
    sound _ f s scope reach n w own a h u i = absurd i

    all_sound : (es : Expressions) (f : ℕ) (s scope : Scope) (reach : Reach) (n : ℕ)
        → Within s scope → Owned f s (uses_all reach n es) → Around scope reach
        → HaveAll D n (definitions_all scope reach n es) → (u : Fact)
        → In u (facts_all (owner_of f s) scope reach n es) → Valid u
    all_sound NoExpressions f s scope reach n w own a h u i = absurd i
    all_sound (MoreExpressions e es) f s scope reach n w own a h u i =
        let o = owner_of f s in
        let m = n + count e in
        let d = definitions scope reach n e in
        let d' = definitions_all scope reach m es in
        let us = uses reach n e in
        let vs = uses_all reach m es in
        ⊎_elim
        (λ k. sound e f s scope reach n w (owned_left us vs own) a (have_left D n d d' h) u k)
        (λ k. all_sound es f s scope reach m w (owned_right us vs own) a
        (behind_part D n (count e) d d' (definitions-count e scope reach n) h) u k)
        (in_split u (facts o scope reach n e) (facts_all o scope reach m es) i)

    clauses_sound : (cs : Clauses) (f : ℕ) (s scope : Scope) (reach : Reach) (n : ℕ)
        → Within s scope → Owned f s (uses_clauses reach n cs) → Around scope reach
        → HaveAll D n (definitions_clauses scope reach n cs) → (u : Fact)
        → In u (facts_clauses (owner_of f s) scope reach n cs) → Valid u
    clauses_sound NoClauses f s scope reach n w own a h u i = absurd i
    clauses_sound (MoreClauses ps g b cs) f s scope reach n w own a h u i =
        let o = owner_of f s in
        let inner = with_patterns scope ps in
        let deeper = within_patterns scope ps in
        let around = around_deeper reach deeper a in
        let m = n + count g in
        let l = n + count g + count b in
        let d = definitions inner reach n g in
        let d' = definitions inner reach m b in
        let d'' = definitions_clauses scope reach l cs in
        let us = uses reach n g in
        let vs = uses reach m b in
        let ws = uses_clauses reach l cs in
        let rest = behind_part D n (count g) d (d' ++ d'')
        (definitions-count g inner reach n) h in
        let own' = owned_right us (vs ++ ws) own in
        let q = facts o inner reach m b in
        let q' = facts_clauses o scope reach l cs in
        ⊎_elim
        (λ k. sound g f s inner reach n (within_then w deeper) (owned_left us (vs ++ ws) own)
        around (have_left D n d (d' ++ d'') h) u k)
        (λ k. ⊎_elim
        (λ j. sound b f s inner reach m (within_then w deeper) (owned_left vs ws own') around
        (have_left D m d' d'' rest) u j)
        (λ j. clauses_sound cs f s scope reach l w (owned_right vs ws own') a
        (behind_part D m (count b) d' d'' (definitions-count b inner reach m) rest) u j)
        (in_split u q q' k))
        (in_split u (facts o inner reach n g) (q ++ q') i)

    functions_sound : (fs : Functions) (f : ℕ) (s scope : Scope) (reach : Reach) (n : ℕ)
        → Within s scope → Owned f s (uses_functions reach n fs) → Around scope reach
        → HaveAll D n (definitions_functions scope reach n fs) → (u : Fact)
        → In u (facts_functions (owner_of f s) scope reach n fs) → Valid u
    functions_sound NoFunctions f s scope reach n w own a h u i = absurd i
    functions_sound (MoreFunctions name xs b fs) f s scope reach n w own a h u i =
        let o = owner_of f s in
        let inner = with_variables scope xs in
        let deeper = within_variables scope xs in
        let m = suc (n + count b) in
        let d = definitions inner reach (suc n) b in
        let d' = definitions_functions scope reach m fs in
        let us = uses reach (suc n) b in
        let vs = uses_functions reach m fs in
        let here : Definition = record { scope = scope; uses = us } in
        let q = facts (owner_of n scope) inner reach (suc n) b in
        let q' = facts_functions o scope reach m fs in
        ⊎_elim
        (λ k. using-valid f s n us (owned_left us vs own)
        (λ all j c e. (
          scope,
          w,
          scope_same n scope us h.0 c e,
          inr (λ u t. j u (subst (λ (c : Definition). In u c.uses) (same n c here e h.0) t)),
        )) u k)
        (λ k. ⊎_elim
        (λ j. sound b n scope inner reach (suc n) deeper (λ l. (us, h.0, λ u t. t))
        (around_deeper reach deeper a) (have_left D (suc n) d d' h.1) u j)
        (λ j. functions_sound fs f s scope reach m w (owned_right us vs own) a
        (behind_body D n (count b) d d' (definitions-count b inner reach (suc n)) h.1) u j)
        (in_split u q q' k))
        (in_split u (using o n) (q ++ q') i)

  -- of the functions of modules, from this number on
  pub program_sound : (fs : List FunctionTree) (n : ℕ) → HaveAll D n (definitions_of n fs)
      → (u : Fact) → In u (facts_of n fs) → Valid u
  program_sound [] n h u i = absurd i
  program_sound (f ∷ fs) n h u i =
      let scope = with_variables [] f.parameters in
      let m = n + count f.body in
      let d = definitions scope [] n f.body in
      let d' = definitions_of m fs in
      ⊎_elim
      (λ k. sound f.body 0 [] scope [] n (within_all scope) (λ l. absurd (omega (arith, l))) tt
      (have_left D n d d' h) u k)
      (λ k. program_sound fs m
      (behind_part D n (count f.body) d d' (definitions-count f.body scope [] n) h) u k)
      (in_split u (facts outermost scope [] n f.body) (facts_of m fs) i)
