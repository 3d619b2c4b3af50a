use Rattle.s7_client.proofs.FormLemmas.{octets_have_form, octets_are_whole, departure_has_form, fault_has_form}
use Rattle.s7_client.proofs.laws.ends_have_form.Goals as goal

pub returns : goal.returns
returns c = record {
  octets = octets_have_form;
  whole = octets_are_whole;
  departure = departure_has_form;
  fault = fault_has_form;
}
