-- What a letter does commutes with a change of what it is done to.
use Rattle.std.specs.Prelude.{◌≡◌, map, Some, None, Option, refl}
use Rattle.std.specs.Option.{option_map, option_to_list}
use Rattle.link.specs.declared.letter.Letter.{Letter}
use Rattle.link.specs.declared.letter.Letter.TheVariants.{Keep, Lose, Double, Hold}
use Rattle.link.specs.Script.{through, holding}

module _ {X Y : Type 0} (g : X → Y) where
  pub map-list_of : (o : Option X) → map g (option_to_list o) ≡ option_to_list (option_map g o)
  map-list_of None = refl
  map-list_of (Some x) = refl

  pub map-through : (c : Letter) (o : Option X) → map g (through c o) ≡ through c (option_map g o)
  map-through c None = refl
  map-through Keep (Some x) = refl
  map-through Lose (Some x) = refl
  map-through Double (Some x) = refl
  map-through Hold (Some x) = refl

  pub mapped_holding : (c : Letter) (o : Option X) → option_map g (holding c o) ≡ holding c (option_map g o)
  mapped_holding c None = refl
  mapped_holding Keep (Some x) = refl
  mapped_holding Lose (Some x) = refl
  mapped_holding Double (Some x) = refl
  mapped_holding Hold (Some x) = refl
