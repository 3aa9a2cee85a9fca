use Rattle.frame_script.specs.Printing.{script_text}
use Rattle.frame_script.proofs.Leads.{spelled_is_read}
use Rattle.script_printer.proofs.ScriptsBack.{printed_is_spelled, one_text_one_script}
use Rattle.script_printer.proofs.laws.printed_scripts_spell_themselves.Goals as goal

pub returns : goal.returns
returns c = record {
  spelled = printed_is_spelled;
  read = λ script fits short. spelled_is_read (script_text script) script (printed_is_spelled script fits short);
  one_text = one_text_one_script;
}
