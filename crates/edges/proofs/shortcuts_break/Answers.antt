-- Every shortcut has its lemma.
use Rattle.edges.specs.Worked.{routes_by_number}
use Rattle.edges.proofs.Ways.{rules_by_their_ways, service_by_the_rules}
use Rattle.edges.proofs.Teeth.{slots_alone_break, first_match_breaks, blind_listing_breaks, blind_count_breaks, first_comer_differs, tally_last_breaks, always_late_breaks, no_count_breaks, weightless_miscounts, uncompared_unlawful}
use Rattle.edges.proofs.Unbroken.{always_full_differs, at_once_differs}
use Rattle.edges.proofs.shortcuts_break.Goals as goal

pub returns : goal.returns
returns c = record {
  rules_by_their_ways = rules_by_their_ways routes_by_number;
  service_by_the_rules = service_by_the_rules routes_by_number;
  slots_alone = slots_alone_break;
  first_match = first_match_breaks;
  blind_listing = blind_listing_breaks;
  blind_count = blind_count_breaks;
  first_comer = first_comer_differs;
  tally_last = tally_last_breaks;
  always_late = always_late_breaks;
  no_count = no_count_breaks;
  weightless = weightless_miscounts;
  uncompared = uncompared_unlawful;
  always_full = always_full_differs;
  at_once = at_once_differs;
}
