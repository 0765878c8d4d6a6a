-- The facts of a program are all that there is of its definitions: what a function uses goes to it
-- along facts.
use Rattle.std.proofs.Common.{◌≡◌, ℕ, zero, suc, ◌+◌, ◌≤◌, List, [], ◌∷◌, ◌++◌, length}
use Rattle.std.proofs.Common.{true, refl, sym, ap, ◌∙◌, subst, arith, inl, inr}
use Rattle.std.proofs.Common.{⊎_elim, Option, Some, None, lt-ltb}
use Rattle.std.specs.Prelude.{◌&&◌, nat_le, nat_lt, if◌then◌else◌, slice_get}
use Rattle.std.proofs.lemmas.Bool.{le-leb}
use Rattle.std.proofs.lemmas.Option.{none-some, same_Some}
use Rattle.hy_core.specs.Resolved as r
use Rattle.hy_core.specs.Resolved.{Head, Expression, Expressions, NoExpressions, MoreExpressions}
use Rattle.hy_core.specs.Resolved.{Clauses, NoClauses, MoreClauses}
use Rattle.hy_core.specs.Resolved.{Functions, NoFunctions, MoreFunctions, FunctionTree}
use Rattle.hy_core.specs.Scopes.{Scope, is_bound, with_variables, with_patterns}
use Rattle.capture_flow.specs.Least.{Has}
use Rattle.capture_flow.specs.Least as least
use Rattle.capture_flow.specs.declared.fact.Fact.{Fact}
use Rattle.capture_flow.specs.declared.fact.Fact.TheVariants.{Occurs, Uses}
use Rattle.capture_flow.specs.declared.fact.Edge.{Edge}
use Rattle.capture_flow.specs.declared.fact.Member.{Member}
use Rattle.lifted_program.specs.Captured.{Use, OfVariable, OfFunction, use_of, head_uses}
use Rattle.lifted_program.specs.Captured.{uses, uses_all, uses_clauses, uses_functions}
use Rattle.lifted_program.specs.Captured.{Definition, definitions, definitions_all, definitions_of}
use Rattle.lifted_program.specs.Captured.{definitions_clauses, definitions_functions}
use Rattle.lifted_program.specs.LetrecNumbers.{count, count_all, count_clauses, count_functions}
use Rattle.lifted_program.specs.LetrecNumbers.{Reach, reach_of, number_in}
use Rattle.lifted_program.proofs.ReadyLemmas.{HaveAll, have_left, further}
use Rattle.lifted_program.proofs.ReadyLemmas.{definitions-count, definitions_all-count}
use Rattle.lifted_program.proofs.ReadyLemmas.{definitions_clauses-count, definitions_functions-count}
use Rattle.lifted_program.proofs.Variables.{In, in_left, in_right, in_split}
use Rattle.captured_facts.specs.Facts.{first_place, occurring, using, using_some, head_facts}
use Rattle.captured_facts.specs.Facts.{facts, facts_all, facts_clauses, facts_functions}
use Rattle.captured_facts.specs.Facts.{facts_of, outermost}
use Rattle.captured_facts.proofs.FactsSound.{Around, around_deeper, around_found}
use Rattle.captured_facts.proofs.FactsSound.{around_letrec, behind_body, behind_part, owner_of}
use Rattle.captured_facts.proofs.Places.{Within, Placed, bound_placed, place_kept}
use Rattle.captured_facts.proofs.Places.{placed_below, within_all, within_patterns, within_then}
use Rattle.captured_facts.proofs.Places.{within_variables}

have_both : (P : ℕ → Definition → Type 0) (n m : ℕ) (a b : List Definition) → m ≡ n + length a
    → HaveAll P n a → HaveAll P m b → HaveAll P n (a ++ b)
have_both P n m [] b e h k = subst (λ m. HaveAll P m b) (let p : m ≡ n = omega (arith, e) in p) k
have_both P n m (x ∷ a) b e h k = (h.0, have_both P (suc n) m a b (omega (arith, e)) h.1 k)

-- of two parts, by the numbers of the first
both_parts : (P : ℕ → Definition → Type 0) (n c : ℕ) (a b : List Definition) → length a ≡ c
    → HaveAll P n a → HaveAll P (n + c) b → HaveAll P n (a ++ b)
both_parts P n c a b e h k = have_both P n (n + c) a b (ap (λ l. n + l) (sym e)) h k

either : (P : Use → Type 0) (us vs : List Use) → ((u : Use) → In u us → P u)
    → ((u : Use) → In u vs → P u) → (u : Use) → In u (us ++ vs) → P u
either P us vs f g u i = ⊎_elim (λ k. f u k) (λ k. g u k) (in_split u us vs i)

module _ (D : ℕ → Definition → Type 0)
    (same : (f : ℕ) (d c : Definition) → D f d → D f c → d ≡ c) (given : Fact → Type 0) where
  -- these facts are given
  abbrev Told : List Fact → Type 0
  Told fs = (u : Fact) → In u fs → given u

  told_left : (fs gs : List Fact) → Told (fs ++ gs) → Told fs
  told_left fs gs t u i = t u (in_left u fs gs i)

  told_right : (fs gs : List Fact) → Told (fs ++ gs) → Told gs
  told_right fs gs t u i = t u (in_right u fs gs i)

  -- what comes to a function with this scope by what it uses
  abbrev pub Passes : ℕ → Scope → Use → Type 0
  Passes f s (OfVariable x) = (p : ℕ) → Placed s x p → Has given f x p
  Passes f s (OfFunction g) =
      (c : Definition) → D g c → (x p : ℕ) → Placed s x p → is_bound x c.scope ≡ true
      → ((p' : ℕ) → Placed c.scope x p' → Has given g x p') → Has given f x p

  abbrev pub AllPass : ℕ → Definition → Type 0
  AllPass f d = (u : Use) → In u d.uses → Passes f d.scope u

  occurring-passes : (f : ℕ) (s scope : Scope) (x : ℕ) → Within s scope
      → Told (occurring (owner_of f s) x (first_place scope x)) → Passes f s (OfVariable x)
  occurring-passes f s scope x w t p h =
      let m : Member = record { function = f; variable = x; place = p } in
      let lt : nat_lt 0 p ≡ true = lt-ltb 0 p h.1 in
      let le : nat_le p (length s) ≡ true = le-leb p (length s) (placed_below s x p h) in
      let there : In (Occurs m) (occurring (owner_of f s) x p) =
      subst (λ b. In (Occurs m) (if b then Occurs m ∷ [] else [])) (sym (λ i. lt i && le i))
      (inl refl) in
      least.occurs (t (Occurs m)
      (subst (λ q. In (Occurs m) (occurring (owner_of f s) x q)) (sym (place_kept x p w h).0)
      there))

  -- a function has what one has that it uses
  using-has : (f : ℕ) (s : Scope) (g x p : ℕ) → Told (using (owner_of f s) g) → Placed s x p
      → Has given g x p → Has given f x p
  using-has f s g x p t h k =
      let e : Edge = record { function = f; used = g; depth = length s } in
      let a = h.1 in
      let b : p ≤ length s = placed_below s x p h in
      let there : In (Uses e) (using (owner_of f s) g) =
      subst (λ b. In (Uses e) (if b then Uses e ∷ [] else []))
      (sym (lt-ltb 0 (length s) (omega (arith, a, b)))) (inl refl) in
      least.uses (t (Uses e) there) b k

  -- one place is around the scopes of both, so a variable has one place in them
  applied-passes : (f : ℕ) (s scope : Scope) (g : ℕ) → Within s scope
      → ((c : Definition) → D g c → Within c.scope scope) → Told (using (owner_of f s) g)
      → Passes f s (OfFunction g)
  applied-passes f s scope g w v t c d x p h b k =
      let q = first_place c.scope x in
      let there : Placed c.scope x q = (refl, bound_placed c.scope x b) in
      let one : q ≡ p =
      sym (place_kept x q (v c d) there).0 ∙ (place_kept x p w h).0 in
      using-has f s g x p t h (subst (λ q. Has given g x q) one (k q there))

  head-passes : (head : Head) (f : ℕ) (s scope : Scope) (reach : Reach) → Within s scope
      → Around D same scope reach → Told (head_facts (owner_of f s) reach head) → (u : Use)
      → In u (head_uses reach head) → Passes f s u
  head-passes (r.Local name) f s scope reach w a t u i = by (number_in reach name) refl t i
    where
      by : (o : Option ℕ) → number_in reach name ≡ o → Told (using_some (owner_of f s) o)
          → In u (use_of o) → Passes f s u
      by None e t i = absurd i
      by (Some g) e t (inl i) =
          subst (Passes f s) (sym i)
          (applied-passes f s scope g w (around_found D same scope reach name g e a) t)
      by (Some g) e t (inr i) = absurd i
  head-passes _ f s scope reach w a t u i = absurd i

  -- what comes to a function that is defined in the text of another one goes on to that one
  outwards : (f : ℕ) (s scope : Scope) (n : ℕ) (us : List Use) → Within s scope
      → Told (using (owner_of f s) n) → ((u : Use) → In u us → Passes n scope u) → (u : Use)
      → In u us → Passes f s u
  outwards f s scope n us w t h (OfVariable x) i =
      λ p k. using-has f s n x p t k (h (OfVariable x) i p (place_kept x p w k))
  outwards f s scope n us w t h (OfFunction g) i =
      λ c d x p k b j.
      using-has f s n x p t k (h (OfFunction g) i c d x p (place_kept x p w k) b j)

  -- what is used in an expression, and by each function that is defined in it
  abbrev Complete : ℕ → Scope → List Use → (n : ℕ) → List Definition → Type 0
  Complete f s us n ds = ((u : Use) → In u us → Passes f s u) × HaveAll AllPass n ds

  joined : (f : ℕ) (s : Scope) (n c : ℕ) (us vs : List Use) (ds es : List Definition)
      → length ds ≡ c → Complete f s us n ds → Complete f s vs (n + c) es
      → Complete f s (us ++ vs) n (ds ++ es)
  joined f s n c us vs ds es e a b =
      (either (Passes f s) us vs a.0 b.0, both_parts AllPass n c ds es e a.1 b.1)

  mutual
    pub complete : (e : Expression) (f : ℕ) (s scope : Scope) (reach : Reach) (n : ℕ)
        → Within s scope → Around D same scope reach → HaveAll D n (definitions scope reach n e)
        → Told (facts (owner_of f s) scope reach n e)
        → Complete f s (uses reach n e) n (definitions scope reach n e)
    complete (r.Variable x) f s scope reach n w a h t = (
      λ u i. ⊎_elim
          (λ e. subst (Passes f s) (sym e) (occurring-passes f s scope x w t))
          (λ k. absurd k) i,
      tt,
    )
    complete (r.Tuple site es) f s scope reach n w a h t =
        all_complete es f s scope reach n w a h t
    complete (r.ListOf site es e) f s scope reach n w a h t =
        let o = owner_of f s in
        let c = count_all es in
        let m = n + c in
        let d = definitions_all scope reach n es in
        let d' = definitions scope reach m e in
        let size = definitions_all-count es scope reach n in
        let q = facts_all o scope reach n es in
        let q' = facts o scope reach m e in
        joined f s n c (uses_all reach n es) (uses reach m e) d d' size
        (all_complete es f s scope reach n w a (have_left D n d d' h) (told_left q q' t))
        (complete e f s scope reach m w a (behind_part D n c d d' size h)
        (told_right q q' t))
    complete (r.Values es) f s scope reach n w a h t =
        all_complete es f s scope reach n w a h t
    complete (r.Let xs e b) f s scope reach n w a h t =
        let o = owner_of f s in
        let c = count e in
        let m = n + c in
        let inner = with_variables scope xs in
        let deeper = within_variables scope xs in
        let d = definitions scope reach n e in
        let d' = definitions inner reach m b in
        let size = definitions-count e scope reach n in
        let q = facts o scope reach n e in
        let q' = facts o inner reach m b in
        joined f s n c (uses reach n e) (uses reach m b) d d' size
        (complete e f s scope reach n w a (have_left D n d d' h) (told_left q q' t))
        (complete b f s inner reach m (within_then w deeper)
        (around_deeper D same reach deeper a) (behind_part D n c d d' size h)
        (told_right q q' t))
    complete (r.Do e b) f s scope reach n w a h t =
        let o = owner_of f s in
        let c = count e in
        let m = n + c in
        let d = definitions scope reach n e in
        let d' = definitions scope reach m b in
        let size = definitions-count e scope reach n in
        let q = facts o scope reach n e in
        let q' = facts o scope reach m b in
        joined f s n c (uses reach n e) (uses reach m b) d d' size
        (complete e f s scope reach n w a (have_left D n d d' h) (told_left q q' t))
        (complete b f s scope reach m w a (behind_part D n c d d' size h)
        (told_right q q' t))
    complete (r.Case e cs) f s scope reach n w a h t =
        let o = owner_of f s in
        let c = count e in
        let m = n + c in
        let d = definitions scope reach n e in
        let d' = definitions_clauses scope reach m cs in
        let size = definitions-count e scope reach n in
        let q = facts o scope reach n e in
        let q' = facts_clauses o scope reach m cs in
        joined f s n c (uses reach n e) (uses_clauses reach m cs) d d' size
        (complete e f s scope reach n w a (have_left D n d d' h) (told_left q q' t))
        (clauses_complete cs f s scope reach m w a (behind_part D n c d d' size h)
        (told_right q q' t))
    complete (r.Letrec fs e) f s scope reach n w a h t =
        let o = owner_of f s in
        let inside = reach_of n fs ++ reach in
        let c = count_functions fs in
        let m = n + c in
        let d = definitions_functions scope inside n fs in
        let d' = definitions scope inside m e in
        let size = definitions_functions-count fs scope inside n in
        let around = around_letrec D same fs scope inside reach n (have_left D n d d' h) a in
        let q = facts_functions o scope inside n fs in
        let q' = facts o scope inside m e in
        joined f s n c (uses_functions inside n fs) (uses inside m e) d d' size
        (functions_complete fs f s scope inside n w around (have_left D n d d' h)
        (told_left q q' t))
        (complete e f s scope inside m w around (behind_part D n c d d' size h)
        (told_right q q' t))
    complete (r.Call head es) f s scope reach n w a h t =
        let o = owner_of f s in
        let q = head_facts o reach head in
        let q' = facts_all o scope reach n es in
        let rest = all_complete es f s scope reach n w a h (told_right q q' t) in (
          either (Passes f s) (head_uses reach head) (uses_all reach n es)
              (head-passes head f s scope reach w a (told_left q q' t)) rest.0,
          rest.1,
        )
    complete (r.Receive cs timeout e) f s scope reach n w a h t =
        let o = owner_of f s in
        let c = count_clauses cs in
        let m = n + c in
        let d = definitions_clauses scope reach n cs in
        let d' = definitions scope reach m e in
        let size = definitions_clauses-count cs scope reach n in
        let q = facts_clauses o scope reach n cs in
        let q' = facts o scope reach m e in
        joined f s n c (uses_clauses reach n cs) (uses reach m e) d d' size
        (clauses_complete cs f s scope reach n w a (have_left D n d d' h) (told_left q q' t))
        (complete e f s scope reach m w a (behind_part D n c d d' size h)
        (told_right q q' t))
    complete _ f s scope reach n w a h t = (λ u i. absurd i, tt)

    all_complete : (es : Expressions) (f : ℕ) (s scope : Scope) (reach : Reach) (n : ℕ)
        → Within s scope → Around D same scope reach → HaveAll D n (definitions_all scope reach n es)
        → Told (facts_all (owner_of f s) scope reach n es)
        → Complete f s (uses_all reach n es) n (definitions_all scope reach n es)
    all_complete NoExpressions f s scope reach n w a h t = (λ u i. absurd i, tt)
    all_complete (MoreExpressions e es) f s scope reach n w a h t =
        let o = owner_of f s in
        let c = count e in
        let m = n + c in
        let d = definitions scope reach n e in
        let d' = definitions_all scope reach m es in
        let size = definitions-count e scope reach n in
        let q = facts o scope reach n e in
        let q' = facts_all o scope reach m es in
        joined f s n c (uses reach n e) (uses_all reach m es) d d' size
        (complete e f s scope reach n w a (have_left D n d d' h) (told_left q q' t))
        (all_complete es f s scope reach m w a (behind_part D n c d d' size h)
        (told_right q q' t))

    clauses_complete : (cs : Clauses) (f : ℕ) (s scope : Scope) (reach : Reach) (n : ℕ)
        → Within s scope → Around D same scope reach → HaveAll D n (definitions_clauses scope reach n cs)
        → Told (facts_clauses (owner_of f s) scope reach n cs)
        → Complete f s (uses_clauses reach n cs) n (definitions_clauses scope reach n cs)
    clauses_complete NoClauses f s scope reach n w a h t = (λ u i. absurd i, tt)
    clauses_complete (MoreClauses ps g b cs) f s scope reach n w a h t =
        let o = owner_of f s in
        let inner = with_patterns scope ps in
        let deeper = within_patterns scope ps in
        let around = around_deeper D same reach deeper a in
        let m = n + count g in
        let l = n + count g + count b in
        let d = definitions inner reach n g in
        let d' = definitions inner reach m b in
        let d'' = definitions_clauses scope reach l cs in
        let size = definitions-count g inner reach n in
        let size' = definitions-count b inner reach m in
        let rest = behind_part D n (count g) d (d' ++ d'') size h in
        let q = facts o inner reach n g in
        let q' = facts o inner reach m b in
        let q'' = facts_clauses o scope reach l cs in
        let t' = told_right q (q' ++ q'') t in
        let us = uses reach n g in
        let vs = uses reach m b in
        let ws = uses_clauses reach l cs in
        joined f s n (count g) us (vs ++ ws) d (d' ++ d'') size
        (complete g f s inner reach n (within_then w deeper) around
        (have_left D n d (d' ++ d'') h) (told_left q (q' ++ q'') t))
        (joined f s m (count b) vs ws d' d'' size'
        (complete b f s inner reach m (within_then w deeper) around
        (have_left D m d' d'' rest) (told_left q' q'' t'))
        (clauses_complete cs f s scope reach l w a
        (behind_part D m (count b) d' d'' size' rest) (told_right q' q'' t')))

    functions_complete : (fs : Functions) (f : ℕ) (s scope : Scope) (reach : Reach) (n : ℕ)
        → Within s scope → Around D same scope reach
        → HaveAll D n (definitions_functions scope reach n fs)
        → Told (facts_functions (owner_of f s) scope reach n fs)
        → Complete f s (uses_functions reach n fs) n (definitions_functions scope reach n fs)
    functions_complete NoFunctions f s scope reach n w a h t = (λ u i. absurd i, tt)
    functions_complete (MoreFunctions name xs b fs) f s scope reach n w a h t =
        let o = owner_of f s in
        let inner = with_variables scope xs in
        let deeper = within_variables scope xs in
        let m = suc (n + count b) in
        let d = definitions inner reach (suc n) b in
        let d' = definitions_functions scope reach m fs in
        let size = definitions-count b inner reach (suc n) in
        let q = using o n in
        let q' = facts (owner_of n scope) inner reach (suc n) b in
        let q'' = facts_functions o scope reach m fs in
        let t' = told_right q (q' ++ q'') t in
        let us = uses reach (suc n) b in
        let vs = uses_functions reach m fs in
        let own = complete b n scope inner reach (suc n) deeper
        (around_deeper D same reach deeper a) (have_left D (suc n) d d' h.1)
        (told_left q' q'' t') in
        let others = functions_complete fs f s scope reach m w a
        (behind_body D n (count b) d d' size h.1) (told_right q' q'' t') in (
          either (Passes f s) us vs
              (outwards f s scope n us w (told_left q (q' ++ q'') t) own.0) others.0,
          (
            own.0,
            have_both AllPass (suc n) m d d' (further n (count b) (length d) size) own.1
                others.1,
          ),
        )

  -- of the functions of modules, from this number on
  pub program_complete : (fs : List FunctionTree) (n : ℕ) → HaveAll D n (definitions_of n fs)
      → Told (facts_of n fs) → HaveAll AllPass n (definitions_of n fs)
  program_complete [] n h t = tt
  program_complete (f ∷ fs) n h t =
      let scope = with_variables [] f.parameters in
      let c = count f.body in
      let d = definitions scope [] n f.body in
      let d' = definitions_of (n + c) fs in
      let size = definitions-count f.body scope [] n in
      let q = facts outermost scope [] n f.body in
      let q' = facts_of (n + c) fs in
      both_parts AllPass n c d d' size
      (complete f.body 0 [] scope [] n (within_all scope) tt (have_left D n d d' h)
      (told_left q q' t)).1
      (program_complete fs (n + c) (behind_part D n c d d' size h) (told_right q q' t))

-- what is so of each has its number
pub have_at : (P : ℕ → Definition → Type 0) (n : ℕ) (xs : List Definition) (k : ℕ)
    (d : Definition) → slice_get xs k ≡ Some d → HaveAll P n xs → P (n + k) d
have_at P n [] k d e h = absurd (none-some d e)
have_at P n (x ∷ xs) zero d e h =
    subst (λ m. P m d) (let p : n ≡ n + 0 = omega arith in p)
    (subst (P n) (same_Some x d e) h.0)
have_at P n (x ∷ xs) (suc k) d e h =
    subst (λ m. P m d) (let p : suc n + k ≡ n + suc k = omega arith in p)
    (have_at P (suc n) xs k d e h.1)
