-- Where a stream is cut, and which bytes are no line feed.
use Rattle.std.proofs.Common.{◌≡◌, ℕ, ◌+◌, ◌-◌, ◌<◌, false, List, ◌∷◌, ◌++◌, length, get_or, take, drop, sym, ap, ◌∙◌}
use Rattle.std.proofs.Common.{arith}
use Rattle.std.proofs.lemmas.Bool.{false_from_ne_true, eqb-true}
use Rattle.std.proofs.lemmas.List.{drop_more, get_or-take, take-append-drop, take_rest, length-take-le}
use Rattle.std.proofs.lemmas.List.Elements.{All-from_get_or}
use Rattle.std.proofs.lemmas.List.Folds.{list_any_none}
use Rattle.bstr.specs.Find.{NoneBefore, Nowhere, Passes, is_byte}
use Rattle.lj_xyz.specs.Lines.{is_line_feed}
use Rattle.lj_wire.specs.Streams.{LacksLineFeed}

pub lacks_nowhere : (bytes : List ℕ) → Nowhere (Passes (is_byte 10) bytes) 0 (length bytes) → LacksLineFeed bytes
lacks_nowhere bytes none =
    list_any_none is_line_feed bytes
    (All-from_get_or (λ x. is_line_feed x ≡ false) bytes 0 (λ i lt. false_from_ne_true _ (none i (omega arith) lt)))

pub lacks_before : (stream : List ℕ) (end : ℕ) → NoneBefore (Passes (is_byte 10) stream) 0 (length stream) end
    → LacksLineFeed (take end stream)
lacks_before stream end before =
    let short : length (take end stream) ≡ end = length-take-le end stream (omega (arith, before.high)) in
    list_any_none is_line_feed (take end stream)
    (All-from_get_or (λ x. is_line_feed x ≡ false) (take end stream) 0
    (λ i lt. rw (get_or-take end stream i 0 (omega (arith, short)))
    (false_from_ne_true _ (before.before i (omega arith) (omega (arith, short))))))

pub cut_at : (stream line rest : List ℕ) (end : ℕ) → end < length stream → Passes (is_byte 10) stream end
    → line ≡ take end stream → rest ≡ drop end stream → stream ≡ line ++ 10 ∷ take (length rest - 1) (drop 1 rest)
cut_at stream line rest end lt at front back =
    let feed : get_or stream end 0 ≡ 10 = eqb-true (get_or stream end 0) 10 at in
    let behind : rest ≡ 10 ∷ drop (end + 1) stream =
    back ∙ drop_more stream end 0 lt ∙ ap (λ byte. byte ∷ drop (end + 1) stream) feed in
    rw (take_rest rest 1, front, behind) (sym (take-append-drop end stream)
    ∙ ap (λ bytes. take end stream ++ bytes) (sym back ∙ behind))
