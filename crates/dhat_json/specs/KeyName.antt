-- The name of each key of a profile and of its points, as it stands in the file.
use Rattle.std.specs.Prelude.{ℕ, List, codes}
use Rattle.dhat_json.specs.declared.key.Key.{Key}
use Rattle.dhat_json.specs.declared.key.Key.TheVariants.{DhatFileVersion, Mode, Verb, Bklt, Bkacc, Bu, Bsu, Bksu, Tu}
use Rattle.dhat_json.specs.declared.key.Key.TheVariants.{Mtu, Tuth, Cmd, Pid, Te, Tg, Ftbl, Pps, Tb, Tbk, Tl, Mb, Mbk}
use Rattle.dhat_json.specs.declared.key.Key.TheVariants.{Gb, Gbk, Eb, Ebk, Rb, Wb, Acc, Fs}

abbrev pub key_name : Key → List ℕ
key_name DhatFileVersion = codes "dhatFileVersion"
key_name Mode = codes "mode"
key_name Verb = codes "verb"
key_name Bklt = codes "bklt"
key_name Bkacc = codes "bkacc"
key_name Bu = codes "bu"
key_name Bsu = codes "bsu"
key_name Bksu = codes "bksu"
key_name Tu = codes "tu"
key_name Mtu = codes "Mtu"
key_name Tuth = codes "tuth"
key_name Cmd = codes "cmd"
key_name Pid = codes "pid"
key_name Te = codes "te"
key_name Tg = codes "tg"
key_name Ftbl = codes "ftbl"
key_name Pps = codes "pps"
key_name Tb = codes "tb"
key_name Tbk = codes "tbk"
key_name Tl = codes "tl"
key_name Mb = codes "mb"
key_name Mbk = codes "mbk"
key_name Gb = codes "gb"
key_name Gbk = codes "gbk"
key_name Eb = codes "eb"
key_name Ebk = codes "ebk"
key_name Rb = codes "rb"
key_name Wb = codes "wb"
key_name Acc = codes "acc"
key_name Fs = codes "fs"
