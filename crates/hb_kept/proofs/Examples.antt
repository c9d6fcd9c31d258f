-- Connections that aren't kept, octets that have no room, acts that don't leave a stream shut, and sides that didn't end, proved.
use Rattle.std.proofs.Common.{◌<◌, [], ◌∷◌, refl, ap, sym, ◌∙◌, subst, arith}
use Rattle.std.proofs.lemmas.Bool.{false≢true}
use Rattle.hb_frames.specs.Frames.{AreOctets}
use Rattle.hb_streams.specs.declared.role.Role.TheVariants.{Server, Client}
use Rattle.hb_streams.specs.declared.sides.Sides.{Sides}
use Rattle.hb_outgoing.specs.Waiting.{nothing, opened}
use Rattle.hb_conn.specs.Connection.{client_settings, server_settings}
use Rattle.hb_conn.specs.Preface as preface
use Rattle.hb_history.specs.History.{fresh}
use Rattle.hb_kept.specs.Examples.{FaultedIsRefused, NoOctetIsRefused, FewHaveRoom, MoreIsRefused, NewIsShut, WriteIsRefused, OpenIsRefused}
use Rattle.hb_kept.proofs.Shut.{waiting_shuts, frame_shuts}

pub faulted_is_refused : FaultedIsRefused
faulted_is_refused c over kept = false≢true (sym kept.goes_on ∙ over)

pub no_octet_is_refused : NoOctetIsRefused
no_octet_is_refused c is kept =
    let octets : AreOctets (256 ∷ []) = subst AreOctets is kept.octets in
    let low : 256 < 256 = octets 0 in
    omega (arith, low)

pub few_have_room : FewHaveRoom
few_have_room c is = omega (arith, is)

pub more_is_refused : MoreIsRefused
more_is_refused c is enough = omega (arith, is, enough)

pub new_is_shut : NewIsShut
new_is_shut Server = frame_shuts (fresh Server) server_settings nothing refl
new_is_shut Client = frame_shuts (fresh Client) client_settings (opened preface.octets) refl

pub write_is_refused : WriteIsRefused
write_is_refused c d stream bytes some goes stays =
    let none = stays bytes (waiting_shuts c some stream bytes) in
    omega (arith, none, goes)

pub open_is_refused : OpenIsRefused
open_is_refused c d stream is becomes = false≢true (ap (λ (w : Sides). w.peer) (sym becomes.here ∙ is))
