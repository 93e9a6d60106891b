-- The words of links.
use Rattle.std.specs.Prelude.{ℕ, List, codes}
use Rattle.fab_looks.specs.declared.link.Link.{Link}
use Rattle.fab_looks.specs.declared.link.Link.TheVariants as link

-- the word of a link, as JSON names it
abbrev pub link_word : Link → List ℕ
link_word link.Host = codes "host"
link_word link.Login = codes "login"
link_word link.Volume = codes "volume"
link_word link.Mapped = codes "mapped"
link_word link.Served = codes "served"
link_word link.Exposed = codes "exposed"
link_word link.Met = codes "met"
link_word link.Joined = codes "joined"

-- what it means that a link is the first that is missing
unfoldable pub missing_words : Link → List ℕ
missing_words link.Host = codes "there is no such host, or it is not yours"
missing_words link.Login = codes "no port of the host is logged in"
missing_words link.Volume = codes "there is no such volume, or it is not yours"
missing_words link.Mapped = codes "no storage group maps the volume"
missing_words link.Served = codes "no storage group that maps the volume has the host"
missing_words link.Exposed = codes "no storage group that maps the volume and has the host is exposed"
missing_words link.Met = codes "no target of those storage groups is logged in where a port of the host is"
missing_words link.Joined = codes "no port of the host is in a zone with a target, and no default zone joins them"
