-- What the definitions come to.
use Rattle.std.specs.Prelude.{◌≡◌, [], ◌∷◌}
use Rattle.world_trial.specs.Draws.{draws}

-- the first draws of the seed 0
abbrev pub FirstDraws : Type 0
FirstDraws = draws 0 5 ≡ 0xE220A8397B1DCDAF ∷ 0x6E789E6AA1B965F4 ∷ 0x06C45D188009454F ∷ 0xF88BB8A8724C81EC ∷ 0x1B39896A51A8749B ∷ []
