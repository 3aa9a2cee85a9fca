use Rattle.std.proofs.Common.{◌<◌, ap, sym, ◌∙◌, ◌++◌, take, string_bytes, append_assoc, arith}
use Rattle.script_fields.specs.Printed.{further_text, list_text}
use Rattle.script_fields.proofs.TextLemmas.{list_text-more}
use Rattle.script_fields.proofs.printed.print_list.Goals as goal

pub loop-i-preserved : goal.loop-i-preserved
loop-i-preserved c =
    let behind : 0 < c.loop-i.i = omega arith in
    c.in_ok-print_further.ensures ∙ ap (λ bytes. bytes ++ further_text c.op-in-loop-i.result) c.loop-i.invariant
    ∙ append_assoc (string_bytes c.args.out.now) (list_text (take c.loop-i.i c.args.list.now)) (further_text c.op-in-loop-i.result)
    ∙ ap (λ text. string_bytes c.args.out.now ++ text) (sym (list_text-more c.args.list.now c.loop-i.i c.op-in-loop-i.result behind c.op-in-loop-i.ensures))
