-- The text of a reply is its lines, one after another.
use Rattle.std.proofs.Common.{◌≡◌, ℕ, List, [], ◌∷◌, refl, sym, append-nil}
use Rattle.std.specs.List.{concat}
use Rattle.lj_session.specs.declared.reply.Reply.{Reply}
use Rattle.lj_session.specs.declared.reply.Reply.TheVariants.{Loaded, LoadedMix, Advanced, Started, Reversed, Branched}
use Rattle.lj_session.specs.declared.reply.Reply.TheVariants.{Restored, Forgotten}
use Rattle.lj_session.specs.declared.reply.Reply.TheVariants.{Tugged, Measured, Shown, Dumped, Listed, ListedBranches}
use Rattle.lj_session.specs.declared.reply.Reply.TheVariants.{Unloaded, Bye, Refused}
use Rattle.lj_session.specs.Users.{User}
use Rattle.lj_wire.specs.ReplyTexts.{text, reply_lines}

one : (line : List ℕ) → line ≡ concat (line ∷ [])
one line = sym (append-nil line)

pub text-lines : (user : User) (reply : Reply) → text user reply ≡ concat (reply_lines user reply)
unfolding text reply_lines
text-lines user (Loaded name atoms) = one _
text-lines user (LoadedMix name atoms) = one _
text-lines user (Advanced name step) = one _
text-lines user (Started name step) = one _
text-lines user (Reversed name step) = one _
text-lines user (Branched name branch step) = one _
text-lines user (Restored name branch step) = one _
text-lines user (Forgotten name branch) = one _
text-lines user (Tugged name atom step) = one _
text-lines user (Measured name step atoms momentum kinetic potential) = one _
text-lines user (Shown name step atom place) = one _
text-lines user (Dumped name) = refl
text-lines user Listed = refl
text-lines user (ListedBranches name) = refl
text-lines user (Unloaded name) = one _
text-lines user Bye = one _
text-lines user (Refused refusal) = one _
