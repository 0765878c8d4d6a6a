-- List notations are read again from their canonical tokens, joined with their tails.
use Rattle.std.proofs.Common.{◌≡◌, ℕ, ◌+◌, ◌≤◌, ℤ, false, List, [], ◌∷◌, ◌++◌, map, refl, sym, ap, subst, ◌∙◌}
use Rattle.std.proofs.lemmas.List.{append_assoc, append-nil}
use Rattle.hy_core.specs.Marks.{Marked, at, symbol}
use Rattle.hy_core.specs.Expressions as exprs
use Rattle.hy_core.specs.Expressions.{joined_at, joined, IsExpr, IsListEnd, IsTail}
use Rattle.hy_core.specs.Canonical.{Part, part, token, after_commas, texts_of, list_end, expr_part, expr_text}
use Rattle.hy_core.specs.declared.token.Symbol.TheVariants as w
use Rattle.hy_core.specs.declared.token.Token.TheVariants as t
use Rattle.hy_core.specs.declared.tables.Tables.{Tables}
use Rattle.hy_core.specs.declared.tree.Module.{Module}
use Rattle.hy_core.specs.declared.tree.Expr.{Expr}
use Rattle.hy_core.specs.declared.tree.Expr.TheVariants as e
use Rattle.hy_core.specs.declared.tree.Expr.TheViews as views
use Rattle.core_print.proofs.Spelling.{IsFine}
use Rattle.core_print.proofs.Numbers.{IsSpelled}
use Rattle.core_print.proofs.Tables.{Keeps}
use Rattle.core_print.proofs.ListEnd.{list_end-nil, list_end-other}
use Rattle.core_print.proofs.CanonicalForms as forms
use Rattle.core_print.proofs.AgainPieces.{Piece, one_symbol, opened, ◌▷◌, deeper, same_text, first_part, next_part}
use Rattle.core_print.proofs.AgainStarts.{IsApart, IsItem, apart_item, no_list}
use Rattle.core_print.proofs.AgainParts.{Again, again_no_deeper}

-- an expression is read before what goes on no name
abbrev pub ExprReads : Tables → Expr → Tables → ℕ → List Marked → List Marked → Type 0
ExprReads s x u k ms r = IsApart ms × (IsApart r → IsExpr k s ms x u r)

-- an expression that is no list notation
pub record IsNoList (z : Module) (x : Expr) : Type 0 where
  pub joins : (xs : List Expr) → joined xs x ≡ e.List 0 xs x
  pub not_nil : (expr_part z x).is_nil ≡ false

-- the heads and the end of a list notation, behind its first head, are read as what the tree has of them
pub record EndAgain (n : ℕ) (z : Module) (s : Tables) (xs : List Expr) (tail : Expr) (u : Tables) : Type 0 where
  pub heads : List Expr
  pub end : Expr
  pub joins : (ys : List Expr) → joined (ys ++ xs) tail ≡ e.List 0 (ys ++ heads) end
  pub simple : (ys : List Expr) → joined ys end ≡ e.List 0 ys end
  pub again : Again n z s (after_commas (texts_of (map (expr_part z) heads)) ++ list_end (expr_part z end)) (λ k ms r. IsApart ms × IsListEnd k s ms heads end u r)

-- a list notation is read again, by itself and as the tail of another
pub record ListAgain (n : ℕ) (z : Module) (s : Tables) (x : Expr) (u : Tables) : Type 0 where
  pub again : Again n z s (expr_text z x) (ExprReads s x u)
  pub end : EndAgain n z s [] x u

pub data ExprAgain (n : ℕ) (z : Module) (s : Tables) (x : Expr) (u : Tables) : Type 0 where
  item : IsNoList z x → (a : Again n z s (expr_text z x) (ExprReads s x u)) → ((k : ℕ) (r : List Marked) → IsItem (a.piece.front k r)) → ExprAgain n z s x u
  list : ListAgain n z s x u → ExprAgain n z s x u

-- a tail that begins no list notation
other_tail : {k : ℕ} {s u : Tables} {x : Expr} {ms r : List Marked} → IsItem ms → IsExpr (k + 1) s ms x u r → IsTail k s ms x u r
other_tail {ms = []} is d = absurd is
other_tail {ms = m ∷ ms} is d = exprs.other_tail (no_list m is) d

module _ {z : Module} where
  end_no_deeper : {n : ℕ} {s u : Tables} {xs : List Expr} {tail : Expr} → EndAgain (n + 1) z s xs tail u → EndAgain n z s xs tail u
  end_no_deeper behind = record { heads = behind.heads; end = behind.end; joins = behind.joins; simple = behind.simple; again = again_no_deeper behind.again }

  module _ {n : ℕ} {s u : Tables} {x : Expr} where
    pub as_expr : ExprAgain n z s x u → Again n z s (expr_text z x) (ExprReads s x u)
    as_expr (item is a starts) = a
    as_expr (list l) = l.again

    pub as_tail : ExprAgain (n + 1) z s x u → EndAgain n z s [] x u
    as_tail (list l) = end_no_deeper l.end
    as_tail (item is a starts) = record {
      heads = [];
      end = x;
      joins = λ ys. is.joins (ys ++ []);
      simple = is.joins;
      again = record {
        piece = same_text (sym (list_end-other (expr_part z x) is.not_nil)) (one_symbol w.Bar ▷ deeper a.piece ▷ one_symbol w.CloseList);
        reads = λ k r. (refl, exprs.tail (other_tail (starts (k + 1) (symbol w.CloseList ∷ r)) ((a.reads (k + 1) (symbol w.CloseList ∷ r)).1 refl)));
        keeps = a.keeps;
      };
    }

    pub expr_no_deeper : ExprAgain (n + 1) z s x u → ExprAgain n z s x u
    expr_no_deeper (item is a starts) = item is (again_no_deeper a) starts
    expr_no_deeper (list l) = list (record { again = again_no_deeper l.again; end = end_no_deeper l.end })

    -- a form of expressions that is no list notation
    pub form : {text : List ℕ} → expr_part z x ≡ part text → ((xs : List Expr) → joined xs x ≡ e.List 0 xs x) → (a : Piece n text)
        → ((k : ℕ) (r : List Marked) → IsItem (a.front k r)) → ((k : ℕ) (r : List Marked) → IsApart r → IsExpr k s (a.front k r) x u r) → Keeps s z → ExprAgain n z s x u
    form is joins a starts reads keeps = item
        (record { joins = joins; not_nil = ap (λ (y : Part). y.is_nil) is })
        (record { piece = same_text (sym (ap (λ (y : Part). y.text) is)) a; reads = λ k r. (apart_item (a.front k r) (starts k r), reads k r); keeps = keeps })
        starts

  pub integer_form : {n : ℕ} {s : Tables} (x : ℤ) → n ≤ 400 → IsSpelled x → Keeps s z → ExprAgain n z s (e.Int x) s
  integer_form {s = s} x shallow is keeps =
      form (forms.part-Int z x) (λ xs. ap (joined_at xs (e.Int x)) (views.outs-Int x)) (same_text (ap token is.spells) (opened (t.Integer is.sign is.digits) ((shallow, is.in_range), is.are_digits)))
      (λ k r. refl) (λ k r after. subst (λ (y : ℤ). IsExpr k s (at k (t.Integer is.sign is.digits) ∷ r) (e.Int y) s r) is.same (exprs.integer is.sign is.digits)) keeps

  pub nil_form : {n : ℕ} {s : Tables} → n ≤ 400 → Keeps s z → ListAgain n z s e.Nil s
  nil_form shallow keeps =
      let joins : (xs : List Expr) → joined xs e.Nil ≡ e.List 0 xs e.Nil = λ xs. ap (joined_at xs e.Nil) views.outs-Nil in
      record {
        again = record {
          piece = same_text (sym (ap (λ (y : Part). y.text) (forms.part-Nil z))) (opened (t.Symbol w.OpenList) ((shallow, tt), tt) ▷ one_symbol w.CloseList);
          reads = λ k r. (refl, λ after. exprs.list exprs.nil);
          keeps = keeps;
        };
        end = record {
          heads = [];
          end = e.Nil;
          joins = λ ys. joins (ys ++ []);
          simple = joins;
          again = record {
            piece = same_text (sym (list_end-nil (expr_part z e.Nil) (ap (λ (y : Part). y.is_nil) (forms.part-Nil z)))) (one_symbol w.CloseList);
            reads = λ k r. (refl, exprs.closed);
            keeps = keeps;
          };
        };
      }

  -- one more head
  abbrev pub next_head : {n : ℕ} {s u o : Tables} {x tail : Expr} {xs : List Expr} → Again (n + 1) z s (expr_text z x) (ExprReads s x u) → EndAgain n z u xs tail o → EndAgain n z s (x ∷ xs) tail o
  next_head {x = x} {tail = tail} {xs = xs} a behind = record {
    heads = x ∷ behind.heads;
    end = behind.end;
    joins = λ ys. ap (λ (k : List Expr). joined k tail) (sym (append_assoc ys (x ∷ []) xs)) ∙ behind.joins (ys ++ x ∷ []) ∙ ap (λ (k : List Expr). e.List 0 k behind.end) (append_assoc ys (x ∷ []) behind.heads);
    simple = behind.simple;
    again = record {
      piece = next_part (texts_of (map (expr_part z) behind.heads)) (list_end (expr_part z behind.end)) (deeper a.piece) behind.again.piece;
      reads = λ k r. (refl, exprs.next_head ((a.reads (k + 1) (behind.again.piece.front k r)).1 (behind.again.reads k r).0) (behind.again.reads k r).1);
      keeps = a.keeps;
    };
  }

  -- a list notation of this head and what is behind it
  pub heads_form : {n : ℕ} {s u o : Tables} {x tail : Expr} {xs : List Expr} → n ≤ 400 → Again (n + 1) z s (expr_text z x) (ExprReads s x u) → EndAgain n z u xs tail o
      → ListAgain n z s (joined (x ∷ xs) tail) o
  heads_form {s = s} {o = o} {x = x} {tail = tail} {xs = xs} shallow a behind =
      let more = next_head a behind in
      let texts = texts_of (map (expr_part z) behind.heads) in
      let close = list_end (expr_part z behind.end) in
      let is : joined (x ∷ xs) tail ≡ e.List 0 (x ∷ behind.heads) behind.end = behind.joins (x ∷ []) in
      record {
        again = record {
          piece = same_text (sym (ap (expr_text z) is ∙ ap (λ (y : Part). y.text) (forms.part-List z 0 (x ∷ behind.heads) behind.end))) (opened (t.Symbol w.OpenList) ((shallow, tt), tt) ▷ first_part texts close (deeper a.piece) behind.again.piece);
          reads = λ k r. (
            refl,
            λ after. subst (λ (y : Expr). IsExpr k s (at k (t.Symbol w.OpenList) ∷ a.piece.front (k + 1) (behind.again.piece.front k r)) y o r) (behind.simple (x ∷ behind.heads) ∙ sym is)
                (exprs.list (exprs.heads ((a.reads (k + 1) (behind.again.piece.front k r)).1 (behind.again.reads k r).0) (behind.again.reads k r).1)),
          );
          keeps = a.keeps;
        };
        end = record {
          heads = more.heads;
          end = more.end;
          joins = λ ys. ap (joined (ys ++ [])) is ∙ ap (joined_at (ys ++ []) (e.List 0 (x ∷ behind.heads) behind.end)) (views.outs-List 0 (x ∷ behind.heads) behind.end) ∙ ap (λ (k : List Expr). e.List 0 (k ++ x ∷ behind.heads) behind.end) (append-nil ys);
          simple = more.simple;
          again = more.again;
        };
      }

  pub string_form : {n : ℕ} {s : Tables} (text : List ℕ) → IsFine (at n (t.Str text)) → Keeps s z → ExprAgain n z s (exprs.string_expr text) s
  string_form [] is keeps = list (nil_form is.0.0 keeps)
  string_form (b ∷ bs) is keeps =
      form (forms.part-Str z (b ∷ bs)) (λ xs. ap (joined_at xs (e.Str (b ∷ bs))) (views.outs-Str (b ∷ bs))) (opened (t.Str (b ∷ bs)) is) (λ k r. refl) (λ k r after. exprs.string (b ∷ bs)) keeps
