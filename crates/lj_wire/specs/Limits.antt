-- The limits of lines and bodies, and of the items of a connection.
use Rattle.std.specs.Prelude.{◌≡◌, ◌^◌, refl}
use Rattle.lj_wire.specs.declared.command_line.TheConstants.{MAX_COUNT_DIGITS}
use Rattle.lj_wire.specs.declared.line_limits.TheConstants.{MAX_LINE_BYTES, LONG_LINE_BYTES, MAX_BODY_BYTES, MAX_ITEMS}

-- the line of a command has at most 256 bytes before its LF
most_line_bytes : MAX_LINE_BYTES ≡ 256
most_line_bytes = refl

-- 65,536 bytes without an LF end the connection
long_line_bytes : LONG_LINE_BYTES ≡ 65536
long_line_bytes = refl

-- the count of a load has at most seven digits
most_count_digits : MAX_COUNT_DIGITS ≡ 7
most_count_digits = refl

-- a body has at most 2^20 bytes
most_body_bytes : MAX_BODY_BYTES ≡ 2 ^ 20
most_body_bytes = refl

-- at most a million items of a connection are answered before it ends
most_items : MAX_ITEMS ≡ 10 ^ 6
most_items = refl
