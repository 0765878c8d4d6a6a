-- Numbering keeps the canonical text of a module, its atoms read in the table of the program.
use Rattle.std.proofs.Common.{◌≡◌, ℕ, suc, ◌<◌, List, [], ◌∷◌, ◌++◌, codes, length, map, pos, Option, Some, None, refl, sym, ap, ◌∙◌, subst, arith}
use Rattle.std.proofs.lemmas.List.Elements.{Contains-append_left, Contains-append_right}
use Rattle.std.specs.List.{Contains}
use Rattle.hy_terms.specs.Texts.{atom_text, int_text}
use Rattle.hy_core.specs.BuiltIn as built
use Rattle.hy_core.specs.BuiltIn.{Operation}
use Rattle.hy_core.specs.Canonical.{Part, part, token, texts_of, with_commas, one_after_another, atom_token, name_text, fun_text, pattern_part, expr_part, clause_text, function_text, canonical_text, expr_step, clause_step, function_step}
use Rattle.hy_core.specs.Canonical as text
use Rattle.hy_core.specs.Counting.{Counts, Numbering, made, next, at_node, behind, in_definition}
use Rattle.hy_core.specs.Expressions.{function, clause_of}
use Rattle.hy_core.specs.Numbered as n
use Rattle.hy_core.specs.Numbered.{numbered_functions, numbered_tree}
use Rattle.hy_core.specs.SubPatterns.{joined}
use Rattle.hy_core.specs.Tables.{renamed, renamed_name}
use Rattle.hy_core.specs.declared.info.SiteKind.{SiteKind}
use Rattle.hy_core.specs.declared.info.SiteKind.TheVariants as kind
use Rattle.hy_core.specs.declared.tree.Clause.{Clause}
use Rattle.hy_core.specs.declared.tree.Expr.{Expr}
use Rattle.hy_core.specs.declared.tree.Expr.TheFolds.{ind-Expr, map-Expr, fold-roll-Expr, fold_out-Clause, fold_out-Function}
use Rattle.hy_core.specs.declared.tree.Expr.TheOpen as layer
use Rattle.hy_core.specs.declared.tree.Expr.TheOpen.{Expr-F}
use Rattle.hy_core.specs.declared.tree.Expr.TheVariants as e
use Rattle.hy_core.specs.declared.tree.Expr.TheViews.{out-Expr, roll-Expr, out-roll-Expr, roll-out-Expr}
use Rattle.hy_core.specs.declared.tree.FunName.{FunName}
use Rattle.hy_core.specs.declared.tree.Function.{Function}
use Rattle.hy_core.specs.declared.tree.Module.{Module}
use Rattle.hy_core.specs.declared.tree.Pattern.{Pattern}
use Rattle.hy_core.specs.declared.tree.Pattern.TheFolds.{ind-Pattern, map-Pattern, fold-roll-Pattern}
use Rattle.hy_core.specs.declared.tree.Pattern.TheOpen as pattern_layer
use Rattle.hy_core.specs.declared.tree.Pattern.TheOpen.{Pattern-F}
use Rattle.hy_core.specs.declared.tree.Pattern.TheVariants as p
use Rattle.hy_core.specs.declared.tree.Pattern.TheViews.{roll-Pattern}
use Rattle.core_tables.specs.code.NumberedParts.{each, spawned, numbered_clause, numbered_definition, numbered_each, numbered_list, numbered_tail, numbered_layer, spawned_layer, call_args, numbered_pattern, operation_of, pattern_step as numbered_step, tail_layer}
use Rattle.core_tables.proofs.NumberedLemmas.{numbered-parts, spawned-parts}
use Rattle.core_lint.specs.ModuleAtoms as atoms
use Rattle.core_lint.specs.ModuleAtoms.{HasOwnAtoms, pattern_atoms, expr_atoms, clause_atoms, function_atoms}
use Rattle.core_lint.proofs.PlacedLemmas.{IsPlaced}

-- whatever was counted, what a numbering makes is read as this
record Gives {A B : Type 0} (read : A → B) (b : B) (numbering : Numbering A) : Type 0 where
  pub read_as : (function : ℕ) (counts : Counts) → read (numbering function counts).0 ≡ b

gives-made : {A B : Type 0} {read : A → B} {b : B} {a : A} → read a ≡ b → Gives read b (made a)
gives-made h = record { read_as = λ function counts. h }

gives-next : {A B C D : Type 0} {read : A → B} {b : B} {last : C → D} {d : D} {first : Numbering A} {more : A → Numbering C}
    → Gives read b first → ((a : A) → read a ≡ b → Gives last d (more a)) → Gives last d (next first more)
gives-next {first = first} h later = record {
  read_as = λ function counts. let this = first function counts in (later this.0 (h.read_as function counts)).read_as function this.1;
}

gives-node : {A B : Type 0} {read : A → B} {b : B} (kinds : List SiteKind) {more : ℕ → Numbering A} → ((site : ℕ) → Gives read b (more site)) → Gives read b (at_node kinds more)
gives-node kinds later = record { read_as = λ function counts. (later (length counts.sites)).read_as function _ }

gives-behind : {A B : Type 0} {read : A → B} {b : B} (count : ℕ) {more : Numbering A} → Gives read b more → Gives read b (behind count more)
gives-behind count h = record { read_as = λ function counts. h.read_as function _ }

gives-definition : {A B : Type 0} {read : A → B} {b : B} {more : Numbering A} → Gives read b more → Gives read b (in_definition more)
gives-definition h = record { read_as = λ function counts. h.read_as counts.local _ }

module _ (table : List (List ℕ)) (m : Module) (placed : IsPlaced table m) (name : ℕ) (exports : List FunName) (functions : List Function) where
  -- a module of the program: its atoms are those of the table
  abbrev over : Module
  over = record { name = name; exports = exports; functions = functions; atoms = table; variables = m.variables }

  abbrev Own : List ℕ → Type 0
  Own own = (a : ℕ) → Contains own a → a < length m.atoms

  left : (xs ys : List ℕ) → Own (xs ++ ys) → Own xs
  left xs ys own a h = own a (Contains-append_left xs ys a h)

  right : (xs ys : List ℕ) → Own (xs ++ ys) → Own ys
  right xs ys own a h = own a (Contains-append_right xs ys a h)

  first : (a : ℕ) (xs : List ℕ) → Own (a ∷ xs) → a < length m.atoms
  first a xs own = own a (0, omega arith, refl)

  rest : (a : ℕ) (xs : List ℕ) → Own (a ∷ xs) → Own xs
  rest a xs own b h = own b (suc h.0, omega (arith, h.1), h.2)

  atom_same : (a : ℕ) → a < length m.atoms → atom_token over (renamed table m a) ≡ atom_token m a
  atom_same a below = ap (λ t. token (atom_text t)) (placed a below)

  name_same : (f : FunName) → f.name < length m.atoms → name_text over (renamed_name table m f) ≡ name_text m f
  name_same f below = ap (λ t. t ++ codes " /" ++ token (int_text (pos f.arity))) (atom_same f.name below)

  names_same : (fs : List FunName) → Own (map (λ f. f.name) fs) → map (name_text over) (map (renamed_name table m) fs) ≡ map (name_text m) fs
  names_same [] own = refl
  names_same (f ∷ fs) own = λ i. name_same f (first f.name (map (λ f. f.name) fs) own) i ∷ names_same fs (rest f.name (map (λ f. f.name) fs) own) i

  -- patterns

  abbrev SamePattern : Pattern → Type 0
  SamePattern q = Own (pattern_atoms q) → pattern_part over (numbered_pattern table m q) ≡ pattern_part m q

  abbrev OnePattern : Type 0
  OnePattern = (q : Pattern) × SamePattern q

  abbrev bare_patterns : List OnePattern → List Pattern
  bare_patterns qs = map (λ q. q.0) qs

  same_patterns : (qs : List OnePattern) → Own (joined (map pattern_atoms (bare_patterns qs))) → map (pattern_part over) (map (numbered_pattern table m) (bare_patterns qs)) ≡ map (pattern_part m) (bare_patterns qs)
  same_patterns [] own = refl
  same_patterns (q ∷ qs) own =
      let others = joined (map pattern_atoms (bare_patterns qs)) in
      λ i. q.1 (left (pattern_atoms q.0) others own) i ∷ same_patterns qs (right (pattern_atoms q.0) others own) i

  -- a pattern is one layer z, and numbered another, u
  pattern_layers : (z u : Pattern-F Pattern) → roll-Pattern u ≡ numbered_step table m (map-Pattern Pattern Pattern (numbered_pattern table m) z)
      → (Own (atoms.pattern_step (map-Pattern Pattern (List ℕ) pattern_atoms z)) → text.pattern_step over (map-Pattern Pattern Part (pattern_part over) u) ≡ text.pattern_step m (map-Pattern Pattern Part (pattern_part m) z))
      → SamePattern (roll-Pattern z)
  pattern_layers z u is same own =
      ap (pattern_part over) (fold-roll-Pattern Pattern (numbered_step table m) z ∙ sym is)
      ∙ fold-roll-Pattern Part (text.pattern_step over) u
      ∙ same (subst Own (fold-roll-Pattern (List ℕ) atoms.pattern_step z) own)
      ∙ sym (fold-roll-Pattern Part (text.pattern_step m) z)

  pattern_at : (y : Pattern-F OnePattern) → SamePattern (roll-Pattern (map-Pattern OnePattern Pattern (λ q. q.0) y))
  pattern_at (pattern_layer.Var x) = pattern_layers (pattern_layer.Var x) _ (p.rolls-Var x) (λ own. refl)
  pattern_at (pattern_layer.Int k) = pattern_layers (pattern_layer.Int k) _ (p.rolls-Int k) (λ own. refl)
  pattern_at (pattern_layer.Atom a) = pattern_layers (pattern_layer.Atom a) _ (p.rolls-Atom (renamed table m a)) (λ own. ap part (atom_same a (first a [] own)))
  pattern_at pattern_layer.Nil = pattern_layers pattern_layer.Nil _ p.rolls-Nil (λ own. refl)
  pattern_at (pattern_layer.Str t) = pattern_layers (pattern_layer.Str t) _ (p.rolls-Str t) (λ own. refl)
  pattern_at (pattern_layer.Tuple qs) =
      pattern_layers (pattern_layer.Tuple (bare_patterns qs)) _ (p.rolls-Tuple (map (numbered_pattern table m) (bare_patterns qs)))
      (λ own. ap (λ parts. text.pattern_step m (pattern_layer.Tuple parts)) (same_patterns qs own))
  pattern_at (pattern_layer.List qs q) =
      let heads = joined (map pattern_atoms (bare_patterns qs)) in
      pattern_layers (pattern_layer.List (bare_patterns qs) q.0) _ (p.rolls-List (map (numbered_pattern table m) (bare_patterns qs)) (numbered_pattern table m q.0))
      (λ own i. text.pattern_step m (pattern_layer.List (same_patterns qs (left heads (pattern_atoms q.0) own) i) (q.1 (right heads (pattern_atoms q.0) own) i)))
  pattern_at (pattern_layer.Alias x q) =
      pattern_layers (pattern_layer.Alias x q.0) _ (p.rolls-Alias x (numbered_pattern table m q.0)) (λ own i. text.pattern_step m (pattern_layer.Alias x (q.1 own i)))

  same_pattern : (q : Pattern) → SamePattern q
  same_pattern = ind-Pattern SamePattern (λ x y is. subst (λ z. SamePattern (roll-Pattern z)) is (pattern_at y))

  all_patterns : (qs : List Pattern) → Own (joined (map pattern_atoms qs)) → map (pattern_part over) (map (numbered_pattern table m) qs) ≡ map (pattern_part m) qs
  all_patterns [] own = refl
  all_patterns (q ∷ qs) own =
      let others = joined (map pattern_atoms qs) in
      λ i. same_pattern q (left (pattern_atoms q) others own) i ∷ all_patterns qs (right (pattern_atoms q) others own) i

  -- expressions

  abbrev whole : Expr → Part
  whole = expr_part over

  -- in its own place, and as the list of a `spawn`
  record Same (x : Expr) : Type 0 where
    pub in_place : Gives whole (expr_part m x) (numbered_tree table m x)
    pub in_spawn : Gives whole (expr_part m x) (spawned table m x)

  abbrev SameExpr : Expr → Type 0
  SameExpr x = Own (expr_atoms x) → Same x

  abbrev SameClause : Clause → Type 0
  SameClause k = Own (clause_atoms k) → Gives (clause_text over) (clause_text m k) (numbered_clause table m k)

  abbrev SameFunction : Function → Type 0
  SameFunction f = Own (function_atoms f) → Gives (function_text over) (function_text m f) (numbered_definition table m f)

  abbrev OneExpr : Type 0
  OneExpr = (x : Expr) × SameExpr x

  abbrev OneClause : Type 0
  OneClause = (k : Clause) × SameClause k

  abbrev OneFunction : Type 0
  OneFunction = (f : Function) × SameFunction f

  abbrev exprs : List OneExpr → List Expr
  exprs xs = map (λ x. x.0) xs

  abbrev atoms_of : List OneExpr → List ℕ
  atoms_of xs = joined (map expr_atoms (exprs xs))

  -- parts that are numbered one after another
  same_each : {A B Y : Type 0} (number : A → Numbering A) (new old : A → B) (named : A → List ℕ) (item : Y → A) → ((y : Y) → Own (named (item y)) → Gives new (old (item y)) (number (item y)))
      → (ys : List Y) → Own (joined (map named (map item ys))) → Gives (map new) (map old (map item ys)) (each number (map item ys))
  same_each number new old named item same [] own = gives-made refl
  same_each number new old named item same (y ∷ ys) own =
      let others = joined (map named (map item ys)) in
      let this = same y (left (named (item y)) others own) in
      let more = same_each number new old named item same ys (right (named (item y)) others own) in
      record { read_as = λ function counts i. this.read_as function counts i ∷ more.read_as function (number (item y) function counts).1 i }

  same_exprs : (xs : List OneExpr) → Own (atoms_of xs) → Gives (map whole) (map (expr_part m) (exprs xs)) (numbered_each table m (exprs xs))
  same_exprs = same_each (numbered_tree table m) whole (expr_part m) expr_atoms (λ (x : OneExpr). x.0) (λ (x : OneExpr) own. (x.1 own).in_place)

  abbrev clauses : List OneClause → List Clause
  clauses ks = map (λ k. k.0) ks

  same_clauses : (ks : List OneClause) → Own (joined (map clause_atoms (clauses ks))) → Gives (map (clause_text over)) (map (clause_text m) (clauses ks)) (each (numbered_clause table m) (clauses ks))
  same_clauses = same_each (numbered_clause table m) (clause_text over) (clause_text m) clause_atoms (λ (k : OneClause). k.0) (λ (k : OneClause). k.1)

  abbrev definitions : List OneFunction → List Function
  definitions fs = map (λ f. f.0) fs

  same_definitions : (fs : List OneFunction) → Own (joined (map function_atoms (definitions fs))) → Gives (map (function_text over)) (map (function_text m) (definitions fs)) (each (numbered_definition table m) (definitions fs))
  same_definitions = same_each (numbered_definition table m) (function_text over) (function_text m) function_atoms (λ (f : OneFunction). f.0) (λ (f : OneFunction). f.1)

  abbrev parts : Module → Expr-F Expr Clause Function → Expr-F Part (List ℕ) (List ℕ)
  parts names = map-Expr Expr Clause Function Part (List ℕ) (List ℕ) (expr_part names) (clause_text names) (function_text names)

  formed : (names : Module) (z : Expr-F Expr Clause Function) → expr_part names (roll-Expr z) ≡ expr_step names (parts names z)
  formed names z = fold-roll-Expr Part (List ℕ) (List ℕ) (expr_step names) (clause_step names) (function_step names) z

  -- an expression of this form is made
  ends : (u : Expr-F Expr Clause Function) (x : Expr) {r : Part} → roll-Expr u ≡ x → expr_step over (parts over u) ≡ r → Gives whole r (made x)
  ends u x is h = gives-made (ap whole (sym is) ∙ formed over u ∙ h)

  abbrev OwnLayer : Expr-F Expr Clause Function → Type 0
  OwnLayer z = Own (atoms.expr_step (map-Expr Expr Clause Function (List ℕ) (List ℕ) (List ℕ) expr_atoms clause_atoms function_atoms z))

  abbrev LayerGives : Expr-F Expr Clause Function → Numbering Expr → Type 0
  LayerGives z numbering = Gives whole (expr_step m (parts m z)) numbering

  -- by its layer
  by_layers : (z : Expr-F Expr Clause Function) → (OwnLayer z → LayerGives z (numbered_layer table m z)) → (OwnLayer z → LayerGives z (spawned_layer table m z)) → SameExpr (roll-Expr z)
  by_layers z h g own =
      let x = roll-Expr z in
      let own_layer = subst Own (fold-roll-Expr (List ℕ) (List ℕ) (List ℕ) atoms.expr_step atoms.clause_step atoms.function_step z) own in
      let read = sym (formed m z) in
      record {
        in_place = subst (λ r. Gives whole r (numbered_tree table m x)) read (subst (Gives whole (expr_step m (parts m z))) (sym (numbered-parts table m x ∙ ap (numbered_layer table m) (out-roll-Expr z))) (h own_layer));
        in_spawn = subst (λ r. Gives whole r (spawned table m x)) read (subst (Gives whole (expr_step m (parts m z))) (sym (spawned-parts table m x ∙ ap (spawned_layer table m) (out-roll-Expr z))) (g own_layer));
      }

  -- a form that is the same as the list of a `spawn`
  plain : (z : Expr-F Expr Clause Function) → spawned_layer table m z ≡ numbered_layer table m z → (OwnLayer z → LayerGives z (numbered_layer table m z)) → SameExpr (roll-Expr z)
  plain z alike h = by_layers z h (λ own. subst (LayerGives z) (sym alike) (h own))

  -- nil at the end of a list notation, or another tail
  same_tail : (x : OneExpr) → Own (expr_atoms x.0) → Gives whole (expr_part m x.0) (numbered_tail table m x.0)
  same_tail x own = by (out-Expr x.0) (roll-out-Expr x.0)
    where
      by : (z : Expr-F Expr Clause Function) → roll-Expr z ≡ x.0 → Gives whole (expr_part m x.0) (tail_layer (numbered_tree table m x.0) z)
      by layer.Nil is = ends layer.Nil e.Nil e.rolls-Nil (sym (formed m layer.Nil) ∙ ap (expr_part m) is)
      by _ is = (x.1 own).in_place

  same_list : (kinds : List SiteKind) (place : ℕ → ℕ) (site : ℕ) (xs : List OneExpr) (x : OneExpr) → Own (atoms_of xs ++ expr_atoms x.0) → LayerGives (layer.List site (exprs xs) x.0) (numbered_list table m kinds place (exprs xs) x.0)
  same_list kinds place site xs x own =
      gives-node kinds λ here.
      gives-next (same_exprs xs (left (atoms_of xs) (expr_atoms x.0) own)) λ ys h.
      gives-next (same_tail x (right (atoms_of xs) (expr_atoms x.0) own)) λ y g.
      ends (layer.List (place here) ys y) _ (e.rolls-List (place here) ys y) (λ i. expr_step m (layer.List site (h i) (g i)))

  -- the arguments of a call; the list of a `spawn` is the third
  same_args : (operation : Option Operation) (xs : List OneExpr) → Own (atoms_of xs) → Gives (map whole) (map (expr_part m) (exprs xs)) (call_args table m operation (exprs xs))
  same_args (Some built.Spawns) (x ∷ y ∷ list ∷ []) own =
      let more = atoms_of (y ∷ list ∷ []) in
      let later = right (expr_atoms x.0) more own in
      let h = (x.1 (left (expr_atoms x.0) more own)).in_place in
      let g = (y.1 (left (expr_atoms y.0) (atoms_of (list ∷ [])) later)).in_place in
      let k = (list.1 (left (expr_atoms list.0) [] (right (expr_atoms y.0) (atoms_of (list ∷ [])) later))).in_spawn in
      record {
        read_as = λ function counts.
            let behind_first = (numbered_tree table m x.0 function counts).1 in
            let behind_second = (numbered_tree table m y.0 function behind_first).1 in
            λ i. h.read_as function counts i ∷ g.read_as function behind_first i ∷ k.read_as function behind_second i ∷ [];
      }
  same_args (Some built.Spawns) [] own = same_exprs [] own
  same_args (Some built.Spawns) (x ∷ []) own = same_exprs (x ∷ []) own
  same_args (Some built.Spawns) (x ∷ y ∷ []) own = same_exprs (x ∷ y ∷ []) own
  same_args (Some built.Spawns) (x ∷ y ∷ z ∷ w ∷ xs) own = same_exprs (x ∷ y ∷ z ∷ w ∷ xs) own
  same_args (Some (built.Plain b)) xs own = same_exprs xs own
  same_args (Some built.SetsElement) xs own = same_exprs xs own
  same_args (Some built.Sends) xs own = same_exprs xs own
  same_args (Some built.Displays) xs own = same_exprs xs own
  same_args (Some (built.RaisesAs class)) xs own = same_exprs xs own
  same_args None xs own = same_exprs xs own

  expr_at : (y : Expr-F OneExpr OneClause OneFunction) → SameExpr (roll-Expr (map-Expr OneExpr OneClause OneFunction Expr Clause Function (λ x. x.0) (λ k. k.0) (λ f. f.0) y))
  expr_at (layer.Int k) = plain (layer.Int k) refl λ own. gives-node [] λ _. ends (layer.Int k) _ (e.rolls-Int k) refl
  expr_at (layer.Atom a) = plain (layer.Atom a) refl λ own. gives-node [] λ _. ends (layer.Atom (renamed table m a)) _ (e.rolls-Atom (renamed table m a)) (ap part (atom_same a (first a [] own)))
  expr_at layer.Nil = plain layer.Nil refl λ own. gives-node [] λ _. ends layer.Nil _ e.rolls-Nil refl
  expr_at (layer.Str t) = plain (layer.Str t) refl λ own. gives-node (kind.String ∷ []) λ _. ends (layer.Str t) _ (e.rolls-Str t) refl
  expr_at (layer.Var x) = plain (layer.Var x) refl λ own. gives-node [] λ _. ends (layer.Var x) _ (e.rolls-Var x) refl
  expr_at (layer.Name f) = plain (layer.Name f) refl λ own. gives-node [] λ _. ends (layer.Name (renamed_name table m f)) _ (e.rolls-Name (renamed_name table m f)) (ap part (name_same f (first f.name [] own)))
  expr_at (layer.Tuple site xs) = plain (layer.Tuple site (exprs xs)) refl λ own.
      gives-node (kind.Tuple ∷ []) λ here. gives-next (same_exprs xs own) λ ys h.
      ends (layer.Tuple here ys) _ (e.rolls-Tuple here ys) (λ i. expr_step m (layer.Tuple site (h i)))
  expr_at (layer.List site xs x) =
      by_layers (layer.List site (exprs xs) x.0) (λ own. same_list _ (λ here. here) site xs x own) (λ own. same_list [] (λ _. 0) site xs x own)
  expr_at (layer.Values xs) = plain (layer.Values (exprs xs)) refl λ own.
      gives-node [] λ _. gives-next (same_exprs xs own) λ ys h.
      ends (layer.Values ys) _ (e.rolls-Values ys) (λ i. expr_step m (layer.Values (h i)))
  expr_at (layer.Let vars x y) = plain (layer.Let vars x.0 y.0) refl λ own.
      gives-node [] λ _. gives-next (x.1 (left (expr_atoms x.0) (expr_atoms y.0) own)).in_place λ a h.
      gives-next (y.1 (right (expr_atoms x.0) (expr_atoms y.0) own)).in_place λ b g.
      ends (layer.Let vars a b) _ (e.rolls-Let vars a b) (λ i. expr_step m (layer.Let vars (h i) (g i)))
  expr_at (layer.Do x y) = plain (layer.Do x.0 y.0) refl λ own.
      gives-node [] λ _. gives-next (x.1 (left (expr_atoms x.0) (expr_atoms y.0) own)).in_place λ a h.
      gives-next (y.1 (right (expr_atoms x.0) (expr_atoms y.0) own)).in_place λ b g.
      ends (layer.Do a b) _ (e.rolls-Do a b) (λ i. expr_step m (layer.Do (h i) (g i)))
  expr_at (layer.Case x ks) = plain (layer.Case x.0 (clauses ks)) refl λ own.
      let those = joined (map clause_atoms (clauses ks)) in
      gives-node [] λ _. gives-next (x.1 (left (expr_atoms x.0) those own)).in_place λ a h.
      gives-next (same_clauses ks (right (expr_atoms x.0) those own)) λ cs g.
      ends (layer.Case a cs) _ (e.rolls-Case a cs) (λ i. expr_step m (layer.Case (h i) (g i)))
  expr_at (layer.Letrec fs x) = plain (layer.Letrec (definitions fs) x.0) refl λ own.
      let those = joined (map function_atoms (definitions fs)) in
      gives-node [] λ _. gives-next (same_definitions fs (left those (expr_atoms x.0) own)) λ gs h.
      gives-next (x.1 (right those (expr_atoms x.0) own)).in_place λ a g.
      ends (layer.Letrec gs a) _ (e.rolls-Letrec gs a) (λ i. expr_step m (layer.Letrec (h i) (g i)))
  expr_at (layer.Apply x xs) = plain (layer.Apply x.0 (exprs xs)) refl λ own.
      gives-node [] λ _. gives-next (x.1 (left (expr_atoms x.0) (atoms_of xs) own)).in_place λ a h.
      gives-next (same_exprs xs (right (expr_atoms x.0) (atoms_of xs) own)) λ ys g.
      ends (layer.Apply a ys) _ (e.rolls-Apply a ys) (λ i. expr_step m (layer.Apply (h i) (g i)))
  expr_at (layer.Call x y xs) = plain (layer.Call x.0 y.0 (exprs xs)) refl λ own.
      let both = left (expr_atoms x.0 ++ expr_atoms y.0) (atoms_of xs) own in
      gives-node (n.sites_of (operation_of table m x.0 y.0 (exprs xs))) λ _. gives-next (x.1 (left (expr_atoms x.0) (expr_atoms y.0) both)).in_place λ a h.
      gives-next (y.1 (right (expr_atoms x.0) (expr_atoms y.0) both)).in_place λ b g.
      gives-next (same_args (operation_of table m x.0 y.0 (exprs xs)) xs (right (expr_atoms x.0 ++ expr_atoms y.0) (atoms_of xs) own)) λ ys k.
      ends (layer.Call a b ys) _ (e.rolls-Call a b ys) (λ i. expr_step m (layer.Call (h i) (g i) (k i)))
  expr_at (layer.Primop a xs) = plain (layer.Primop a (exprs xs)) refl λ own.
      gives-node [] λ _. gives-next (same_exprs xs (rest a (atoms_of xs) own)) λ ys h.
      ends (layer.Primop (renamed table m a) ys) _ (e.rolls-Primop (renamed table m a) ys)
      (λ i. part (codes " primop" ++ atom_same a (first a (atoms_of xs) own) i ++ codes " (" ++ with_commas (texts_of (h i)) ++ codes " )"))
  expr_at (layer.Receive ks x y) = plain (layer.Receive (clauses ks) x.0 y.0) refl λ own.
      let those = joined (map clause_atoms (clauses ks)) in
      let both = left (those ++ expr_atoms x.0) (expr_atoms y.0) own in
      gives-node [] λ _. gives-next (same_clauses ks (left those (expr_atoms x.0) both)) λ cs h.
      gives-next (x.1 (right those (expr_atoms x.0) both)).in_place λ a g.
      gives-next (y.1 (right (those ++ expr_atoms x.0) (expr_atoms y.0) own)).in_place λ b k.
      ends (layer.Receive cs a b) _ (e.rolls-Receive cs a b) (λ i. expr_step m (layer.Receive (h i) (g i) (k i)))
  expr_at (layer.Try x vars y caught z) = plain (layer.Try x.0 vars y.0 caught z.0) refl λ own.
      let both = left (expr_atoms x.0 ++ expr_atoms y.0) (expr_atoms z.0) own in
      gives-node [] λ _. gives-next (x.1 (left (expr_atoms x.0) (expr_atoms y.0) both)).in_place λ a h.
      gives-next (y.1 (right (expr_atoms x.0) (expr_atoms y.0) both)).in_place λ b g.
      gives-next (z.1 (right (expr_atoms x.0 ++ expr_atoms y.0) (expr_atoms z.0) own)).in_place λ c k.
      ends (layer.Try a vars b caught c) _ (e.rolls-Try a vars b caught c) (λ i. expr_step m (layer.Try (h i) vars (g i) caught (k i)))
  expr_at (layer.Catch x) = plain (layer.Catch x.0) refl λ own.
      gives-node [] λ _. gives-next (x.1 own).in_place λ a h.
      ends (layer.Catch a) _ (e.rolls-Catch a) (λ i. expr_step m (layer.Catch (h i)))
  expr_at (layer.Fun params x) = plain (layer.Fun params x.0) refl λ own.
      gives-node [] λ _. gives-next (x.1 own).in_place λ a h.
      ends (layer.Fun params a) _ (e.rolls-Fun params a) (λ i. expr_step m (layer.Fun params (h i)))

  abbrev clause_line : List Part → Part → Part → List ℕ
  clause_line patterns guard body = codes " <" ++ with_commas (texts_of patterns) ++ codes " > when" ++ guard.text ++ codes " ->" ++ body.text

  clause_formed : (names : Module) (k : Clause) → clause_text names k ≡ clause_line (map (pattern_part names) k.patterns) (expr_part names k.guard) (expr_part names k.body)
  clause_formed names k = fold_out-Clause Part (List ℕ) (List ℕ) (expr_step names) (clause_step names) (function_step names) k

  -- a clause, from its guard and its body
  clause_at : (k : Clause) → SameExpr k.guard → SameExpr k.body → SameClause k
  clause_at k guard body own =
      let these = joined (map pattern_atoms k.patterns) in
      let before = these ++ expr_atoms k.guard in
      let own_layer : Own (before ++ expr_atoms k.body) = subst Own (fold_out-Clause (List ℕ) (List ℕ) (List ℕ) atoms.expr_step atoms.clause_step atoms.function_step k) own in
      let both = left before (expr_atoms k.body) own_layer in
      let patterns = all_patterns k.patterns (left these (expr_atoms k.guard) both) in
      gives-behind _
      (gives-next (guard (right these (expr_atoms k.guard) both)).in_place λ a h.
      gives-next (body (right before (expr_atoms k.body) own_layer)).in_place λ b g.
      gives-made (clause_formed over (clause_of (map (numbered_pattern table m) k.patterns) a b) ∙ (λ i. clause_line (patterns i) (h i) (g i)) ∙ sym (clause_formed m k)))

  function_formed : (names : Module) (f : Function) → function_text names f ≡ name_text names f.name ++ codes " =" ++ fun_text names f.params (expr_part names f.body).text
  function_formed names f = fold_out-Function Part (List ℕ) (List ℕ) (expr_step names) (clause_step names) (function_step names) f

  own_function : (f : Function) → Own (function_atoms f) → Own (f.name.name ∷ expr_atoms f.body)
  own_function f own = subst Own (fold_out-Function (List ℕ) (List ℕ) (List ℕ) atoms.expr_step atoms.clause_step atoms.function_step f) own

  -- a function, from its body
  function_same : (f : Function) → Own (function_atoms f) → (x : Expr) → whole x ≡ expr_part m f.body → function_text over (function (renamed_name table m f.name) f.params x) ≡ function_text m f
  function_same f own x h =
      function_formed over (function (renamed_name table m f.name) f.params x)
      ∙ (λ i. name_same f.name (first f.name.name (expr_atoms f.body) (own_function f own)) i ++ codes " =" ++ fun_text m f.params (h i).text)
      ∙ sym (function_formed m f)

  function_at : (f : Function) → SameExpr f.body → SameFunction f
  function_at f body own =
      gives-definition (gives-next (body (rest f.name.name (expr_atoms f.body) (own_function f own))).in_place λ b h. gives-made (function_same f own b h))

  same_expr : (x : Expr) → SameExpr x
  same_expr =
      ind-Expr SameExpr SameClause SameFunction
      (λ x y is. subst (λ z. SameExpr (roll-Expr z)) is (expr_at y))
      (λ x y is. subst (λ z. SameClause (clause_of z.patterns z.guard z.body)) is (clause_at (clause_of y.patterns y.guard.0 y.body.0) y.guard.1 y.body.1))
      (λ x y is. subst (λ z. SameFunction (function z.name z.params z.body)) is (function_at (function y.name y.params y.body.0) y.body.1))

  functions_same : (fs : List Function) → Own (joined (map function_atoms fs)) → (k : ℕ) (counts : Counts) → map (function_text over) (numbered_functions table m k fs counts).0 ≡ map (function_text m) fs
  functions_same [] own k counts = refl
  functions_same (f ∷ fs) own k counts =
      let others = joined (map function_atoms fs) in
      let own_first = left (function_atoms f) others own in
      let start : Counts = record counts { node = 0 } in
      let this = numbered_tree table m f.body k start in
      let body = (same_expr f.body (rest f.name.name (expr_atoms f.body) (own_function f own_first))).in_place.read_as k start in
      λ i. function_same f own_first this.0 body i ∷ functions_same fs (right (function_atoms f) others own) (suc k) this.1 i

-- a module of the program has its text over the program's table
pub module_same : (table : List (List ℕ)) (m : Module) → IsPlaced table m → HasOwnAtoms m → (k : ℕ) (counts : Counts)
    → canonical_text (record { name = renamed table m m.name; exports = map (renamed_name table m) m.exports; functions = (numbered_functions table m k m.functions counts).0; atoms = table; variables = m.variables }) ≡ canonical_text m
module_same table m placed own k counts =
    let name = renamed table m m.name in
    let exports = map (renamed_name table m) m.exports in
    let functions = (numbered_functions table m k m.functions counts).0 in
    let names = map (λ (f : FunName). f.name) m.exports in
    let those = joined (map function_atoms m.functions) in
    let behind_name = rest table m placed name exports functions m.name (names ++ those) own in
    let same_name = atom_same table m placed name exports functions m.name (first table m placed name exports functions m.name (names ++ those) own) in
    let same_exports = names_same table m placed name exports functions m.exports (left table m placed name exports functions names those behind_name) in
    let same_functions = functions_same table m placed name exports functions m.functions (right table m placed name exports functions names those behind_name) k counts in
    λ i. codes "module" ++ same_name i ++ codes " [" ++ with_commas (same_exports i) ++ codes " ] attributes [ ]" ++ one_after_another (same_functions i) ++ codes " end\n"
