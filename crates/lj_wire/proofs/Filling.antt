-- The body put into the item of a line.
use Rattle.std.proofs.Common.{◌≡◌, ℕ, Bool, true, false, cond, nat_lt, List, [], ◌∷◌, length, Option, Some, None, refl}
use Rattle.std.specs.Option.{option_map}
use Rattle.lj_base.specs.Names.{name_of}
use Rattle.lj_fixed.specs.Numbers.{number_of}
use Rattle.lj_session.specs.declared.body.LoadBody.{LoadBody}
use Rattle.lj_session.specs.declared.body.LoadBody.TheVariants.{Unread}
use Rattle.lj_session.specs.declared.command.Load.{Load}
use Rattle.lj_session.specs.declared.command.Command.{Command}
use Rattle.lj_session.specs.declared.command.Command.TheVariants as command
use Rattle.lj_wire.specs.declared.item.Fault.TheVariants.{Line, Long}
use Rattle.lj_wire.specs.declared.item.Item.TheVariants.{Bad, Last}
use Rattle.lj_wire.specs.declared.line_limits.TheConstants.{LONG_LINE_BYTES}
use Rattle.lj_wire.specs.declared.verb.Verb.{Verb}
use Rattle.lj_wire.specs.declared.verb.Verb.TheVariants as verb
use Rattle.lj_wire.specs.Items.{with_body}
use Rattle.lj_wire.specs.Displacements.{displacement_of}
use Rattle.lj_wire.specs.Verbs.{verb_of}
use Rattle.lj_wire.specs.Commands.{◌>>=◌, Words, one_name, two_names, name_and_number, bare_command, session_command}
use Rattle.lj_wire.specs.Commands.{branch_command, number_command, tug_command, list_command, load_of, load_mix_of}
use Rattle.lj_wire.specs.Commands.{load_command, item_or_syntax, load_count, counted_item, verb_item, item_of_words, is_over}
use Rattle.lj_wire.specs.Commands.{over_item, words_in, item_with}

-- what is no load stays as it is
abbrev Stays : Option Command → Type 0
Stays command = (body : LoadBody) → with_body (item_or_syntax command) body ≡ item_or_syntax command

mapped : {A : Type 0} (command : A → Command) (o : Option A) → ((a : A) → Stays (Some (command a)))
    → Stays (option_map command o)
mapped command None stays body = refl
mapped command (Some a) stays body = stays a body

bound : {A : Type 0} (o : Option A) (next : A → Option Command) → ((a : A) → Stays (next a)) → Stays (o >>= next)
bound None next stays body = refl
bound (Some a) next stays body = stays a body

tug_stays : (words : Words) → Stays (tug_command words)
tug_stays (s ∷ n ∷ dx ∷ dy ∷ dz ∷ []) body =
    bound (name_of s) _ (λ name. bound (number_of n) _
    (λ atom. bound (displacement_of dx) _ (λ x. bound (displacement_of dy) _ (λ y.
    bound (displacement_of dz) _ (λ z body. refl))))) body
tug_stays [] body = refl
tug_stays (s ∷ []) body = refl
tug_stays (s ∷ n ∷ []) body = refl
tug_stays (s ∷ n ∷ dx ∷ []) body = refl
tug_stays (s ∷ n ∷ dx ∷ dy ∷ []) body = refl
tug_stays (s ∷ n ∷ dx ∷ dy ∷ dz ∷ word ∷ words) body = refl

list_stays : (words : Words) → Stays (list_command words)
list_stays [] body = refl
list_stays (word ∷ words) body = mapped command.ListBranches (one_name (word ∷ words)) (λ name body. refl) body

bye_stays : (words : Words) → Stays (bare_command command.Bye words)
bye_stays [] body = refl
bye_stays (word ∷ words) body = refl

-- a command on a session is no load
session_stays : (command : List ℕ → Command) → ((name : List ℕ) → Stays (Some (command name))) → (words : Words)
    → Stays (session_command command words)
session_stays command stays words = mapped command (one_name words) stays

branch_stays : (command : List ℕ → List ℕ → Command)
    → ((p : List ℕ × List ℕ) → Stays (Some (command p.0 p.1))) → (words : Words)
    → Stays (branch_command command words)
branch_stays command stays words = mapped (λ p. command p.0 p.1) (two_names words) stays

number_stays : (command : List ℕ → ℕ → Command) → ((p : List ℕ × ℕ) → Stays (Some (command p.0 p.1))) → (words : Words)
    → Stays (number_command command words)
number_stays command stays words = mapped (λ p. command p.0 p.1) (name_and_number words) stays

load_filled : (load : Option Load) (body : LoadBody)
    → with_body (item_or_syntax (option_map (λ load. command.Load (record load { body = Unread })) load)) body
    ≡ item_or_syntax (option_map (λ load. command.Load (record load { body = body })) load)
load_filled None body = refl
load_filled (Some load) body = refl

counted_filled : (count : Option ℕ) (load : Option Load) (body : LoadBody)
    → with_body (counted_item count (load_command Unread load)) body ≡ counted_item count (load_command body load)
counted_filled None load body = refl
counted_filled (Some count) load body = load_filled load body

-- the body goes into what LOAD and LOADMIX begin; no other first word begins a load
verb_filled : (verb : Option Verb) (words : Words) (body : LoadBody)
    → with_body (verb_item verb words Unread) body ≡ verb_item verb words body
verb_filled None words body = refl
verb_filled (Some verb.Load) words body = counted_filled (load_count words) (load_of words) body
verb_filled (Some verb.LoadMix) words body = counted_filled (load_count words) (load_mix_of words) body
verb_filled (Some verb.Advance) words body = number_stays command.Advance (λ p body. refl) words body
verb_filled (Some verb.Start) words body = number_stays command.Start (λ p body. refl) words body
verb_filled (Some verb.Reverse) words body = session_stays command.Reverse (λ name body. refl) words body
verb_filled (Some verb.Branch) words body = branch_stays command.Branch (λ p body. refl) words body
verb_filled (Some verb.Restore) words body = branch_stays command.Restore (λ p body. refl) words body
verb_filled (Some verb.Forget) words body = branch_stays command.Forget (λ p body. refl) words body
verb_filled (Some verb.Tug) words body = tug_stays words body
verb_filled (Some verb.Measure) words body = session_stays command.Measure (λ name body. refl) words body
verb_filled (Some verb.Show) words body = number_stays command.Show (λ p body. refl) words body
verb_filled (Some verb.Dump) words body = session_stays command.Dump (λ name body. refl) words body
verb_filled (Some verb.List) words body = list_stays words body
verb_filled (Some verb.Unload) words body = session_stays command.Unload (λ name body. refl) words body
verb_filled (Some verb.Bye) words body = bye_stays words body

words_filled : (words : Words) (body : LoadBody) → with_body (item_of_words words Unread) body
    ≡ item_of_words words body
unfolding item_of_words
words_filled [] body = refl
words_filled (word ∷ words) body = verb_filled (verb_of word) words body

over_stays : (short : Bool) (body : LoadBody) → with_body (cond short (Bad Line) (Last Long)) body
    ≡ cond short (Bad Line) (Last Long)
over_stays true body = refl
over_stays false body = refl

-- the item of a line with the body put in
pub line_filled : (line : List ℕ) (body : LoadBody) → with_body (item_with line Unread) body ≡ item_with line body
line_filled line body = by_test (is_over line)
  where
    by_test : (over : Bool)
        → with_body (cond over (over_item line) (item_of_words (words_in line) Unread)) body
        ≡ cond over (over_item line) (item_of_words (words_in line) body)
    by_test true = over_stays (nat_lt (length line) LONG_LINE_BYTES) body
    by_test false = words_filled (words_in line) body
