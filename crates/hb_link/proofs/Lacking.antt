-- Memory is wanting for a header block: the link alone ends.
use Rattle.std.proofs.Common.{◌≡◌, ℕ, false, [], ◌∷◌, refl, sym, subst}
use Rattle.hb_conn.specs.Connection.{Connection}
use Rattle.hb_conn.specs.Observed.{LacksBlock}
use Rattle.hb_held.specs.Held.{Resources}
use Rattle.hb_inbound.specs.Inbound as m
use Rattle.hb_inbound.specs.Inbound.{lacking}
use Rattle.hb_inbound.specs.Part.{lacked}
use Rattle.hb_inbound.specs.Runs.{Lacks, with_link}
use Rattle.hb_inbound.proofs.Lacking.{lacks_held}
use Rattle.hb_link.specs.declared.link.Link.{Link}
use Rattle.hb_link.specs.Counting.{places}
use Rattle.hb_link.specs.Looking.{LacksMemory, Looked}
use Rattle.hb_link.specs.Noted.{Told}
use Rattle.hb_link.specs.Settling.{MayPut, MayLook, Settles, AlwaysSettles}
use Rattle.hb_link.specs.Shows.{ShowsBy}
use Rattle.hb_link.proofs.Moving.{link_with}
use Rattle.hb_link.proofs.Noted.{takes_none}
use Rattle.hb_link.proofs.Settles.{settles_then}

module _ (others limit : ℕ) (H : Resources → Type 0) (k : Link) (c : Connection) (lacks : LacksBlock k.conn) where
  abbrev mid : Link
  mid = link_with c k.tunnels k

  -- the machine's connection is the one that was asked, and holds the block's frame
  ends : (note : Told) → Settles others limit H MayLook LacksMemory k note mid note
  ends note start before a stands holds may =
      let x = a.link in
      let way : ShowsBy m.serving k x = subst (λ (phase : m.Phase). ShowsBy phase k x) may.serving may.agrees.way in
      let held = lacks_held x.conn may.fares.kept (subst LacksBlock (sym way.0) lacks) in (
        refl,
        record {
          parts = lacked ∷ [];
          reached = with_link (lacking x) a;
          leads = (
            tt,
            tt,
            with_link (lacking x) a,
            (subst (λ (phase : m.Phase). Lacks phase x) (sym may.serving) (may.answered, held), refl),
            refl,
          );
          shows = record {
            before = x;
            tunnels = may.agrees.tunnels;
            numbered = may.agrees.numbered;
            is = refl;
          };
          noted = takes_none note;
        },
      )

  pub look_lacks : (new : Link) (note now : Told) → AlwaysSettles LacksMemory MayPut mid note new now
      → Settles others limit H MayLook (Looked false) k note new now
  look_lacks new note now behind =
      settles_then (places others limit) H MayLook LacksMemory MayPut k mid new note note now (ends note)
      (λ start before a stands holds is. behind (places others limit) start before a stands tt is)
