-- The texts before the first page and after the last: fixed texts.
use Rattle.std.specs.Prelude.{ℕ, List, ◌++◌, codes}

-- the text before the end of the style, and the text after it
unfoldable pub front : List ℕ
front =
    codes "<!DOCTYPE html>\n<html lang=\"en\"><head><meta charset=\"utf-8\"><meta name=\"viewport\" content=\"width=device-width, initial-sca"
    ++ (codes "le=1\"><title>Study report</title><style>\n@page{size:A4;margin:12mm 16mm}\n*{box-sizing:border-box}\nhtml{font:10pt/1.38 \"Libera"
    ++ (codes "tion Serif\",\"Times New Roman\",Georgia,serif;color:#111;background:#fff}\nbody{margin:0 auto;max-width:178mm;padding:6mm 0}\nart"
    ++ (codes "icle{break-after:page}\narticle:last-child{break-after:auto}\nheader{border-bottom:1.5pt solid #111;margin-bottom:4mm}\nh1{font-si"
    ++ (codes "ze:17pt;line-height:1.15;margin:0}\n.by{margin:1mm 0 1.5mm;color:#333}\nh2{font-size:11pt;margin:3.5mm 0 1mm;break-after:avoid}\nh"
    ++ (codes "3{font-size:10.5pt;margin:0 0 .5mm}\np{margin:0 0 1.5mm}\n.top{display:grid;grid-template-columns:68mm 1fr;gap:7mm}\nfigure{margin"
    ++ (codes ":0}\nsvg.board{display:block;width:68mm;height:auto}\nsvg.mini{display:block;width:24mm;height:24mm;flex:none}\n.lt{fill:#fff;stro"
    ++ (codes "ke:none}.dk{fill:#c9c9c9;stroke:none}.fr{fill:none;stroke:#111;stroke-width:1.6}\ntext{stroke:none;font:12px \"Liberation Sans"
    ++ (codes "\",Arial,sans-serif;fill:#333;text-anchor:middle}\nuse{stroke:#111;stroke-width:1.5;stroke-linejoin:round;stroke-linecap:round}\nu"
    ++ (codes "se.w{fill:#fff;--in:#111}\nuse.b{fill:#111;--in:#fff}\nsymbol .i{fill:none;stroke:var(--in)}\nsymbol .d{fill:var(--in);stroke:none"
    ++ (codes "}\nsymbol .x{fill:none;stroke-width:2.6;stroke:#111}\nfigcaption{margin:1.5mm 0 0 3mm;font-size:9.5pt;line-height:1.35}\nfigcaptio"
    ++ (codes "n b{font-size:11.5pt}\n.cnt{float:right;font-size:9.5pt}\ncode{font:8.5pt \"Liberation Mono\",monospace;overflow-wrap:anywhere}\n."
    ++ (codes "verdict h2{margin-top:0}\n.stamp{display:inline-block;border:1.6pt solid;padding:.5mm 3mm;font-size:14pt;letter-spacing:.03em}\n.s"
    ++ (codes "tamp.sound{color:#14602f}.stamp.unsound{color:#7a4b00;border-style:double;border-width:3pt}.stamp.wrong{color:#9c1119;background:#"
    ++ (codes "fff;border-style:dashed}\n.faults{margin:0 0 1.5mm;padding-left:5mm}\narticle+article{margin-top:12mm}\n.key{font-size:8.5pt;color"
    ++ (codes ":#333;border-top:.5pt solid #999;padding-top:1.2mm;margin-top:2mm}\n.m{white-space:nowrap}\n.m.only{color:#14602f}.m.dual{color:#7"
    ++ (codes "a4b00;text-decoration:underline dotted;text-underline-offset:2px}.m.mistake{color:#9c1119;font-style:italic}.m.idle{color:#666}\n."
    ++ (codes "s{font-style:normal;padding-left:.5px}\nsub{font-size:7pt;color:#444;vertical-align:-.25em;line-height:0;margin-left:1px}\nsup{fon"
    ++ (codes "t-size:6.5pt;line-height:0;color:#444}\n.tag{font:7.5pt \"Liberation Sans\",Arial,sans-serif;border:.6pt solid;border-radius:2pt;p"
    ++ (codes "adding:0 1.2mm;text-decoration:none;color:#7a4b00;white-space:nowrap}\n.tag.q{color:#9c1119;border-style:dashed}\n.tree{font-size:"
    ++ (codes "11pt;line-height:1.5}\n.tree>.m{font-weight:bold}\n.tree ul{list-style:none;margin:.5mm 0 .8mm 3mm;padding:0 0 0 3mm;border-left:."
    ++ (codes "8pt solid #999;font-size:10pt;line-height:1.36}\n.tree ul .m{font-weight:normal}\n.cards{display:grid;grid-template-columns:1fr 1f"
    ++ (codes "r;gap:2.5mm 6mm;break-inside:avoid}\n.card{display:flex;gap:3.5mm;break-inside:avoid;font-size:9pt;line-height:1.3}\n.card p{margi"
    ++ (codes "n:0}\n.also{margin:0;padding-left:4mm}\ntable{border-collapse:collapse;width:100%;font-size:9pt;line-height:1.32}\nth{text-align:l"
    ++ (codes "eft;font-size:8.5pt;font-weight:bold;border-bottom:.8pt solid #111;padding:.4mm 2.5mm .4mm 0}\ntd{vertical-align:top;border-bottom"
    ++ (codes ":.4pt solid #bbb;padding:.7mm 2.5mm .7mm 0}\ntd:first-child{white-space:nowrap}\ntr{break-inside:avoid}\n.nb{white-space:nowrap;margin-"
    ++ (codes "right:1.5mm}\n.note{font-size:8.5pt;color:#333;margin-top:1mm}\nsmall{font-size:8.5pt;color:#333}\nfooter{margin-top:5mm;border-top:.5pt solid #"
    ++ (codes "999;padding-top:1mm;font-size:8.5pt;color:#333}\n@media print{body{padding:0}article+article{margin-top:0}a{color:inherit}.stamp,."
    ++ (codes "dk{print-color-adjust:exact}}\n@media screen and (max-width:700px){body{padding:4mm}.top,.cards{grid-template-columns:1fr}}\n.warn"
    ++ (codes "{color:#9c1119;font-style:italic}\n.keep{break-inside:avoid}\n.mini use{stroke-width:2.3}\n"
    ++ (codes "@media print{body{display:flex;flex-direction:column}.sum{order:-1}article.sum:last-child{break-after:page}article~article>footer"
    ++ (codes "{display:none}\narticle:not(.sum)::after{content:\"Remarks:\";display:block;margin-top:6mm;padding-bottom:8mm;border-bottom:.5pt solid #999;"
    ++ codes "font-size:9pt;color:#333}}\n\n")))))))))))))))))))))))))))))))

unfoldable pub back : List ℕ
back =
    codes "</style></head><body><svg class=\"def"
    ++ (codes "s\" width=\"0\" height=\"0\" aria-hidden=\"true\"><defs><symbol id=\"mP\" viewBox=\"0 0 45 45\"><path d=\"M22.5 8.5a5.6 5.6 0 0 1 "
    ++ (codes "3.7 9.8c2.9 1.6 4.6 4.3 4.6 7.4 0 2.2-.8 4.3-2.3 5.9 4.2 1.2 7 4 7 7.4h-26c0-3.4 2.8-6.2 7-7.4a8.7 8.7 0 0 1-2.3-5.9c0-3.1 1.7-5.8"
    ++ (codes " 4.6-7.4a5.6 5.6 0 0 1 3.7-9.8z\"/></symbol><symbol id=\"mR\" viewBox=\"0 0 45 45\"><path d=\"M10 39v-4.5l3-1v-2l2.5-12-4.5-4V8h5v"
    ++ (codes "3.2h4V8h5v3.2h4V8h5v7.5l-4.5 4 2.5 12v2l3 1V39z\"/><path class=\"i\" d=\"M15.5 19.5h14M13.5 31.5h18\"/></symbol><symbol id=\"mB\" "
    ++ (codes "viewBox=\"0 0 45 45\"><circle cx=\"22.5\" cy=\"8\" r=\"2.7\"/><path d=\"M22.5 10.7c6.200 4 9.3 8.600 9.3 13.600 0 3-1.3 5.5-3.3 7."
    ++ (codes "7h-12c-2-2.200-3.3-4.7-3.3-7.7 0-5 3.100-9.600 9.3-13.600z\"/><path d=\"M10.5 39c0-3.200 2.3-5 5.5-5.5h13c3.200.5 5.5 2.3 5.5 5.5z"
    ++ (codes "\"/><path class=\"i\" d=\"M22.5 17v8.5M18.5 21h8\"/></symbol><symbol id=\"mN\" viewBox=\"0 0 45 45\"><path d=\"M13 39c0-8.5 8-10.5"
    ++ (codes " 8.5-16.5-3.5.5-5 3-7 4.800-2.200 1.7-4.7 1-5.7-1-.8-1.900.5-3.7 1.7-5.800l4-7c.5-2.200.4-4.200-.3-6.5l5.800 3.3c9.5.2 15.5 8.200 "
    ++ (codes "15.5 20.200V39z\"/><circle class=\"d\" cx=\"17.3\" cy=\"15.800\" r=\"1.3\"/><path class=\"i\" d=\"M24 13.5c4 2.5 6.200 7.5 6.3 14"
    ++ (codes "\"/></symbol><symbol id=\"mQ\" viewBox=\"0 0 45 45\"><path d=\"M8.5 14.5l5.600 8.5 2.400-12.5 6 11 6-11L30.900 23l5.600-8.5-3.3 17"
    ++ (codes "h-21.400z\"/><circle cx=\"8.200\" cy=\"12.800\" r=\"2.3\"/><circle cx=\"16.3\" cy=\"8.800\" r=\"2.3\"/><circle cx=\"28.7\" cy=\"8."
    ++ (codes "800\" r=\"2.3\"/><circle cx=\"36.800\" cy=\"12.800\" r=\"2.3\"/><path d=\"M11.5 39v-5.5h22V39z\"/></symbol><symbol id=\"mK\" viewB"
    ++ (codes "ox=\"0 0 45 45\"><path class=\"x\" d=\"M22.5 4.5v8.5M18.800 7.800h7.400\"/><path d=\"M22.5 16.5c2.3-4.600 10.5-5.3 12.600.2 1.7 4."
    ++ (codes "5-1.200 9.3-5.3 13.800h-14.600c-4.100-4.5-7-9.3-5.3-13.800 2.100-5.5 10.3-4.800 12.600-.2z\"/><path d=\"M12.5 39v-6.5h20V39z\"/><p"
    ++ (codes "ath class=\"i\" d=\"M22.5 17v13.5M12.5 35.7h20\"/></symbol><g id=\"board\"><rect class=\"lt\" x=\"0\" y=\"0\" width=\"360\" height"
    ++ (codes "=\"360\"/><path class=\"dk\" d=\"M0 315h45v45h-45zM90 315h45v45h-45zM180 315h45v45h-45zM270 315h45v45h-45zM45 270h45v45h-45zM135 2"
    ++ (codes "70h45v45h-45zM225 270h45v45h-45zM315 270h45v45h-45zM0 225h45v45h-45zM90 225h45v45h-45zM180 225h45v45h-45zM270 225h45v45h-45zM45 18"
    ++ (codes "0h45v45h-45zM135 180h45v45h-45zM225 180h45v45h-45zM315 180h45v45h-45zM0 135h45v45h-45zM90 135h45v45h-45zM180 135h45v45h-45zM270 13"
    ++ (codes "5h45v45h-45zM45 90h45v45h-45zM135 90h45v45h-45zM225 90h45v45h-45zM315 90h45v45h-45zM0 45h45v45h-45zM90 45h45v45h-45zM180 45h45v45h"
    ++ (codes "-45zM270 45h45v45h-45zM45 0h45v45h-45zM135 0h45v45h-45zM225 0h45v45h-45zM315 0h45v45h-45z\"/><rect class=\"fr\" x=\"0\" y=\"0\" wi"
    ++ (codes "dth=\"360\" height=\"360\"/></g><g id=\"coordinates\"><text x=\"22\" y=\"372\">a</text><text x=\"67\" y=\"372\">b</text><text x=\""
    ++ (codes "112\" y=\"372\">c</text><text x=\"157\" y=\"372\">d</text><text x=\"202\" y=\"372\">e</text><text x=\"247\" y=\"372\">f</text><tex"
    ++ (codes "t x=\"292\" y=\"372\">g</text><text x=\"337\" y=\"372\">h</text><text x=\"-8\" y=\"342\">1</text><text x=\"-8\" y=\"297\">2</text>"
    ++ (codes "<text x=\"-8\" y=\"252\">3</text><text x=\"-8\" y=\"207\">4</text><text x=\"-8\" y=\"162\">5</text><text x=\"-8\" y=\"117\">6</tex"
    ++ (codes "t><text x=\"-8\" y=\"72\">7</text><text x=\"-8\" y=\"27\">8</text></g></defs></svg>\n")))))))))))))))))))))))))

-- the opening of pages
unfoldable pub page_opening : List ℕ
page_opening = front ++ back

-- the additional style of a sheet: twelve diagrams per page
unfoldable pub sheet_style : List ℕ
sheet_style =
    codes "body{max-width:178mm}\nbody>figure{display:inline-block;width:59mm;height:68mm;vertical-align:top;break-inside:avoid}\nbody>figure svg.board"
    ++ codes "{width:50mm}\nbody>figure figcaption{margin:.5mm 2mm 0;font-size:8.5pt;line-height:1.3}\nbody>figure figcaption b{font-size:9.5pt}\n"
    ++ codes ".defs{display:block}\n@media print{body{display:block}}\n"

unfoldable pub sheet_opening : List ℕ
sheet_opening = front ++ (sheet_style ++ back)

unfoldable pub page_closing : List ℕ
page_closing = codes "</body></html>\n"
