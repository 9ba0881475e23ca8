-- Limits of frames of XYZ text and of symbols.
use Rattle.std.specs.Prelude.{◌≡◌, refl}
use Rattle.lj_xyz.specs.declared.frame_reader.TheConstants.{MAX_FRAME_ATOMS}
use Rattle.lj_xyz.specs.declared.symbol.TheConstants.{MAX_SYMBOL_BYTES}

-- a frame has at most 4,096 atoms
most_atoms : MAX_FRAME_ATOMS ≡ 4096
most_atoms = refl

-- a symbol has at most 16 bytes
most_symbol_bytes : MAX_SYMBOL_BYTES ≡ 16
most_symbol_bytes = refl
