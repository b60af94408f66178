-- What is read is the front of the text, and the reply to that is the text's.
use Rattle.std.proofs.Common.{◌≡◌, ℕ, List, ◌++◌, take, Some, None, Option, IfSome, refl, ap, ap₂, ◌∙◌, subst, arith}
use Rattle.std.specs.Option.{option_map}
use Rattle.std.specs.Io.KnownBytes.{Appends}
use Rattle.replies.specs.Replies.{TextReply}
use Rattle.replies.proofs.Front.{from_front}
use Rattle.replies.proofs.printing.print_reply.Goals as goal

pub returns : goal.returns
returns g c = go (g.R.Read.remaining c.args.source) refl
  where
    go : (o : Option (List ℕ)) → g.R.Read.remaining c.args.source ≡ o →
        IfSome o (λ text. (x : List ℕ) × TextReply text c.in_ok-reply.reply.refused x × Appends (g.W.Write.contents c.args.sink.now) (g.W.Write.contents c.write_all.new.self) x)
    go None e = tt
    go (Some text) e =
        let out = c.in_ok-reply.reply.text.items in
        let left : option_map (take c.take.result.limit) (g.R.Read.remaining c.take.result.inner) ≡ Some (take 16385 text) =
        ap₂ (λ n o. option_map (take n) o) c.take.ensures.limit (ap g.R.Read.remaining c.take.ensures.inner ∙ e) in
        let read = subst (λ o. IfSome o (λ xs. c.read_to_end.new.buf.items ≡ c.new-text.result.items ++ xs)) left c.in_ok-read_to_end.ensures.bytes in
        let front = c.as_slice.ensures.value ∙ read ∙ ap (λ xs. xs ++ take 16385 text) c.new-text.ensures.items in (
          out,
          from_front text c.in_ok-reply.reply.refused out 16385 (omega arith) (subst (λ t. TextReply t c.in_ok-reply.reply.refused out) front c.in_ok-reply.ensures),
          subst (Appends (g.W.Write.contents c.args.sink.now) (g.W.Write.contents c.write_all.new.self)) c.as_slice-2.ensures.value c.in_ok-write_all.ensures.bytes,
        )
