use Rattle.std.proofs.Common.{◌∙◌}
use Rattle.hy_core.specs.Canonical.{expr_part}
use Rattle.core_print.proofs.ListEnd.{list_end-nil, list_end-other}
use Rattle.core_print.proofs.expr.+print.Goals as goal

pub push_list_end-returns-then-is_nil : goal.push_list_end-returns-then-is_nil
push_list_end-returns-then-is_nil t c = rw (list_end-nil (expr_part c.args.names.now c.args.tail.now) (c.is_nil.ensures c.args.names.now ∙ c.if-is_nil.true)) c.put.ensures

pub push_list_end-returns-else-is_nil : goal.push_list_end-returns-else-is_nil
push_list_end-returns-else-is_nil t c = rw (list_end-other (expr_part c.args.names.now c.args.tail.now) (c.is_nil.ensures c.args.names.now ∙ c.if-is_nil.false)) c.push_tail.ensures
