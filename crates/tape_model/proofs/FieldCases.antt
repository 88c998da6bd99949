-- The cases of specs/FieldCases hold: each is computed.
use mathlib.Core.Path.{refl}
use Rattle.tape_model.specs.Ticket.{ordered, values_rule, ticket_rule}
use Rattle.tape_model.specs.FieldCases.{FieldCases}

pub field-cases : FieldCases
unfolding ticket_rule values_rule ordered
field-cases =
    record {
      form = (refl, refl);
      truck = (refl, refl);
      shovel = (refl, refl);
      tip = (refl, refl);
      grade = (refl, refl);
      loaded = (refl, refl);
      tipped = (refl, refl);
      gross = (refl, refl);
      tare = (refl, refl);
      weights = (refl, refl);
      empty_form = (refl, refl);
      empty_truck = (refl, refl);
      empty_grade = (refl, refl);
      empty_loaded = (refl, refl);
      empty_tipped = (refl, refl);
      empty_spare = (refl, refl);
      spare = (refl, refl);
      form_2 = (refl, refl);
      truck_2 = (refl, refl);
      shovel_2 = (refl, refl);
      tip_2 = (refl, refl);
      grade_2 = (refl, refl);
      loaded_2 = (refl, refl);
      tipped_2 = (refl, refl);
      gross_2 = (refl, refl);
      tare_2 = (refl, refl);
      spare_2 = (refl, refl);
      device = (refl, refl);
      shift = (refl, refl);
      sheet = (refl, refl);
    }
