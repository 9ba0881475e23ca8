-- What is answered to a load whose body found no memory.
use Rattle.std.proofs.Common.{◌≡◌, ℕ, ◌<◌, Bool, true, false, cond, List, [], ◌∷◌, Option, Some, None, refl}
use Rattle.std.proofs.Common.{arith}
use Rattle.std.specs.Option.{option_map}
use Rattle.lj_session.specs.declared.body.LoadBody.TheVariants.{Lost, Read}
use Rattle.lj_session.specs.declared.command.Load.{Load}
use Rattle.lj_session.specs.declared.command.Command.TheVariants as command
use Rattle.lj_session.specs.Users.{User}
use Rattle.lj_session.specs.Answers.{command_result}
use Rattle.lj_wire.specs.declared.verb.Verb.{Verb}
use Rattle.lj_wire.specs.declared.verb.Verb.TheVariants as verbs
use Rattle.lj_wire.specs.Verbs.{verb_of}
use Rattle.lj_wire.specs.Commands.{Words, load_of, load_mix_of, load_command, item_or_syntax, load_count, counted_item}
use Rattle.lj_wire.specs.Commands.{verb_item, verb_body_len}
use Rattle.lj_wire.specs.Commands.{item_of_words, body_len, is_over, over_item, words_in, body_len_announced, item_with, item_of}
use Rattle.lj_wire.specs.Told.{item_reply}

lost_load : (user : User) (load : Option Load) (body : List ℕ) (mark : Bool)
    → item_reply user (item_or_syntax (option_map (λ load. command.Load (record load { body = Lost })) load)) mark
    ≡ item_reply user (item_or_syntax (option_map (λ load. command.Load (record load { body = Read body })) load)) true
unfolding command_result
lost_load user None body mark = refl
lost_load user (Some load) body mark = refl

lost_counted : (user : User) (count : Option ℕ) (load : Option Load) (body : List ℕ) (mark : Bool)
    → item_reply user (counted_item count (load_command Lost load)) mark
    ≡ item_reply user (counted_item count (load_command (Read body) load)) true
lost_counted user None load body mark = refl
lost_counted user (Some count) load body mark = lost_load user load body mark

lost_verb : (user : User) (verb : Option Verb) (words : Words) (body : List ℕ) (mark : Bool)
    → 0 < verb_body_len verb words
    → item_reply user (verb_item verb words Lost) mark ≡ item_reply user (verb_item verb words (Read body)) true
lost_verb user (Some verbs.Load) words body mark some =
    lost_counted user (load_count words) (load_of words) body mark
lost_verb user (Some verbs.LoadMix) words body mark some =
    lost_counted user (load_count words) (load_mix_of words) body mark
lost_verb user (Some _) words body mark some = absurd (omega (arith, some))
lost_verb user None words body mark some = absurd (omega (arith, some))

lost_words : (user : User) (words : Words) (body : List ℕ) (mark : Bool) → 0 < body_len words
    → item_reply user (item_of_words words Lost) mark ≡ item_reply user (item_of_words words (Read body)) true
unfolding item_of_words body_len
lost_words user [] body mark some = absurd (omega (arith, some))
lost_words user (word ∷ words) body mark some = lost_verb user (verb_of word) words body mark some

pub lost_answered : (user : User) (line body : List ℕ) (mark : Bool) → 0 < body_len_announced line
    → item_reply user (item_with line Lost) mark ≡ item_reply user (item_of line body) true
lost_answered user line body mark some = by_test (is_over line) some
  where
    by_test : (over : Bool) → 0 < cond over 0 (body_len (words_in line))
        → item_reply user (cond over (over_item line) (item_of_words (words_in line) Lost)) mark
        ≡ item_reply user (cond over (over_item line) (item_of_words (words_in line) (Read body))) true
    by_test true some = absurd (omega (arith, some))
    by_test false some = lost_words user (words_in line) body mark some
