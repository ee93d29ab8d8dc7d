-- `encoder::write` meets its contract.
use Rattle.encoder.proofs.Upper.{placed_sound, raised_ready}
use Rattle.encoder.proofs.Codewords.{encodes}
use Rattle.encoder.proofs.write.Goals as goal

pub interpolate-requires : goal.interpolate-requires
interpolate-requires c = raised_ready _ c.args.code.lawful _ _ c.raise.ensures c.place.ensures.size (placed_sound _ c.args.code.lawful _ _ c.requires.2 c.place.ensures)

pub returns : goal.returns
returns c = encodes _ c.args.code.lawful _ _ _ _ c.requires.1 c.requires.2 c.place.ensures c.raise.ensures c.interpolate.ensures
