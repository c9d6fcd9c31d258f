-- What happens at once to a captured link and to the stream of a link to a gateway that carries its tunnel.
use Rattle.std.specs.Prelude.{ℕ, List, take}
use Rattle.hb_base.specs.declared.note.Note.{Note}
use Rattle.hb_base.specs.declared.target.Target.{Target}
use Rattle.hb_captured.specs.Part as captured
use Rattle.hb_gateway.specs.Part as gateway
use Rattle.hb_gateway.specs.Response.{Heard}

pub data Shared : Type 0 where
  -- the stream is asked for, for this authority
  asks : (authority : Target) → Shared
  -- what is heard on the stream is told to the captured link, behind so many bytes of it that have begun to go
  tells : Heard → (begun : ℕ) → Shared
  -- of the bytes that wait so many are put; END_STREAM is; so many bytes are given back to the stream's window
  puts : (waiting : List ℕ) → (count : ℕ) → Shared
  finishes : Shared
  credits : ℕ → Shared
  -- the captured link ended the tunnel; or both sides ended, and all went through
  drops : (begun : ℕ) → Shared
  completes : (begun : ℕ) → Note → Shared

-- what it is to the captured link, for a stream of this link to a gateway
abbrev pub captured_part : (gate stream : ℕ) → Shared → captured.Part
captured_part g s (asks authority) = captured.asked g s
captured_part g s (tells heard begun) = captured.hears heard begun
captured_part g s (puts waiting count) = captured.put (take count waiting)
captured_part g s finishes = captured.finished
captured_part g s (credits n) = captured.credited n
captured_part g s (drops begun) = captured.loosed begun
captured_part g s (completes begun note) = captured.completed begun note

-- and to the link to the gateway, for this captured link
abbrev pub gateway_part : (link stream : ℕ) → Shared → gateway.Part
gateway_part l s (asks authority) = gateway.asks s l authority
gateway_part l s (tells heard begun) = gateway.tells s heard begun
gateway_part l s (puts waiting count) = gateway.put s waiting count
gateway_part l s finishes = gateway.finished s
gateway_part l s (credits n) = gateway.credited s n
gateway_part l s (drops begun) = gateway.dropped s begun
gateway_part l s (completes begun note) = gateway.done s begun
