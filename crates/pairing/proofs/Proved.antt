-- The statements of `Laws`, proved.
use Rattle.pairing.specs.Laws.{PairingLaws}
use Rattle.pairing.proofs.Times.{falls, forms}
use Rattle.pairing.proofs.Rules.{fits_means, means_fits, none_has_more}
use Rattle.pairing.proofs.FirstFree.{the_one}
use Rattle.pairing.proofs.Leftovers.{keeps_rules, each_of_first, each_of_second, pairs_order, first_order, second_order, first_sum, second_sum, room}
use Rattle.pairing.proofs.Exchanged.{exchanged}
use Rattle.pairing.proofs.Mirrored.{mirrored}
use Rattle.pairing.proofs.Opened.{opened-laws, packed}
use Rattle.pairing.proofs.Call.{call-laws, short_is, enough}

pub pairing_laws : PairingLaws
pairing_laws =
    record {
      pairings = λ ts us. record {
        keeps_rules = keeps_rules ts us;
        none_has_more = none_has_more ts us;
        the_one = the_one ts us;
        each_of_first = each_of_first ts us;
        each_of_second = each_of_second ts us;
        pairs_order = pairs_order ts us;
        first_order = first_order ts us;
        second_order = second_order ts us;
        first_sum = first_sum ts us;
        second_sum = second_sum ts us;
        mirrored = mirrored ts us;
        exchanged = exchanged ts us;
      };
      times = record { falls = falls; forms = forms };
      opened = opened-laws;
      packed = packed;
      calls = call-laws;
      fitting = λ ts us p q. (fits_means ts us p q, means_fits ts us p q);
      short = short_is;
      enough = enough;
      room = room;
    }
