-- Variants in clauses.
--     alarm, capability, day, feature, flag, permission, seat, token      the bit of a variant
--     dangerous_bits      the bits of the permissions that are dangerous
use Rattle.std.specs.Prelude.{ℕ, [], ◌∷◌}
use Rattle.enumset.specs.Sets.{BitSet, from_list, in_place, with_bits}
use Rattle.example_set_facts.specs.contracts.capabilities.Capability as capabilities
use Rattle.example_set_facts.specs.contracts.features.Feature as features
use Rattle.example_set_facts.specs.contracts.flags.Flag as flags
use Rattle.example_set_facts.specs.contracts.permissions.Permission as permissions
use Rattle.example_set_facts.specs.contracts.plant.Alarm as plant
use Rattle.example_set_facts.specs.contracts.seats.Seat as seats
use Rattle.example_set_facts.specs.contracts.tokens.Token as tokens
use Rattle.example_set_facts.specs.contracts.weekdays.Weekday as weekdays
use Rattle.example_set_facts.specs.declared.capabilities.Capability.{Capability}
use Rattle.example_set_facts.specs.declared.features.Feature.{Feature}
use Rattle.example_set_facts.specs.declared.flags.Flag.{Flag}
use Rattle.example_set_facts.specs.declared.permissions.Permission.{Permission}
use Rattle.example_set_facts.specs.declared.permissions.Permission.TheVariants.{Write, Delete}
use Rattle.example_set_facts.specs.declared.plant.Alarm.{Alarm}
use Rattle.example_set_facts.specs.declared.seats.Seat.{Seat}
use Rattle.example_set_facts.specs.declared.tokens.Token.{Token}
use Rattle.example_set_facts.specs.declared.weekdays.Weekday.{Weekday}

abbrev pub permission : Permission → ℕ
permission p = (in_place permissions.the_type).bit p

abbrev pub day : Weekday → ℕ
day d = (in_place weekdays.the_type).bit d

abbrev pub feature : Feature → ℕ
feature f = (in_place features.the_type).bit f

abbrev pub seat : Seat → ℕ
seat s = (in_place seats.the_type).bit s

abbrev pub token : Token → ℕ
token t = (in_place tokens.the_type).bit t

abbrev pub alarm : Alarm → ℕ
alarm a = (in_place plant.the_type).bit a

abbrev pub flag : Flag → ℕ
flag f = (with_bits flags.the_type (0 ∷ 1 ∷ 2 ∷ 5 ∷ 7 ∷ [])).bit f

abbrev pub capability : Capability → ℕ
capability c = (with_bits capabilities.the_type (0 ∷ 1 ∷ 2 ∷ 4 ∷ 5 ∷ 8 ∷ 9 ∷ 10 ∷ 12 ∷ [])).bit c

abbrev pub dangerous_bits : BitSet
dangerous_bits = from_list (permission Write ∷ permission Delete ∷ [])
