use Rattle.script_fields.proofs.Spelled.{natural_of-decimal, natural_was_printed, integer_of-signed_decimal, integer_was_printed}
use Rattle.script_fields.proofs.laws.numbers_have_one_spelling.Goals as goal

pub returns : goal.returns
returns c = record {
  printed = natural_of-decimal;
  read = natural_was_printed;
  signed_printed = integer_of-signed_decimal;
  signed_read = integer_was_printed;
}
