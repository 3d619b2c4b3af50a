-- The answer that a client reads for a read that succeeds, and the end of a connect that succeeds.
use Rattle.std.specs.Prelude.{Bool, []}
use Rattle.s7_item.specs.declared.item.Item.{Item}
use Rattle.s7_area.specs.Memory.{Memory, read_code, read_octets}
use Rattle.s7_dialogue.specs.declared.grant.Grant.{Grant}
use Rattle.s7_dialogue.specs.declared.grant.Leaves.TheVariants.{Connected}
use Rattle.s7_dialogue.specs.Codes.{no_fault}
use Rattle.s7_dialogue.specs.Answer.{ItemAnswer}
use Rattle.s7_dialogue.specs.Dialogue.{End}

-- the answer about an item, with a right or without: its return code, and the octets that the memory gives, none if the
-- code refuses the item
abbrev pub told_of : Memory → Bool → Item → ItemAnswer
told_of m right item = record { code = read_code m right item; octets = read_octets m right item }

-- the end of a connect that succeeds
abbrev pub connected_end : Grant → End
connected_end granted = record { code = no_fault; octets = []; codes = []; leaves = Connected granted }
