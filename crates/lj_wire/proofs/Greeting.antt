-- The first line of a connection, read whole.
use Rattle.std.proofs.Common.{◌<◌, ◌≡◌, ℕ, ◌+◌, List, [], ◌∷◌, ◌++◌, length, drop, inl, refl}
use Rattle.std.proofs.Common.{ap, ◌∙◌, arith}
use Rattle.std.proofs.lemmas.List.{length-append}
use Rattle.lj_wire.specs.declared.hello.Hello.{Hello}
use Rattle.lj_wire.specs.Input.{Input}
use Rattle.lj_wire.specs.Greetings.{hello_of, TakesHello}
use Rattle.lj_wire.proofs.Wholes.{LineTaken}

-- the first line was taken, with its line feed
pub greeted : (old found new : Input) (line : List ℕ) (at : ℕ) (hello : Hello) → LineTaken old new line
    → length line ≡ at → (at < length old.held → found ≡ old)
    → new ≡ record found { held = drop (at + 1) found.held } → hello ≡ hello_of line
    → TakesHello old new hello
greeted old found new line at hello t is searched taken means = record {
  front = line ++ 10 ∷ [];
  taken = t.taken;
  is_first = inl (record { line = line; whole = refl; is_line = t.is_line; means = means });
  reads_for =
      λ held. ap (λ a. a.unread) taken
      ∙ ap (λ a. a.unread) (searched (omega (arith, is, held, length-append line (10 ∷ []))));
}
